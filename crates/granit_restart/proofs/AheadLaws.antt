-- Turns that are made ahead change no event, no fault, and no place where skipping ends.
use Rattle.std.proofs.Common.{◌≡◌, ℕ, zero, suc, Bool, true, false, List, [], ◌∷◌, ◌++◌, Option, Some, None, Result, Ok}
use Rattle.std.proofs.Common.{Err, refl, sym, ap, subst, ◌∙◌}
use Rattle.std.specs.Prelude.{if◌then◌else◌}
use Rattle.granit_base.specs.Place.{Mark}
use Rattle.granit_error.specs.OptionsData.{OptionsData}
use Rattle.granit_lexemes.proofs.PieceLemmas.{pieces_done, pieces_more}
use Rattle.granit_lexemes.specs.Outcome.{Fault, ◌>>=◌}
use Rattle.granit_lexemes.specs.Pieces.{with_front}
use Rattle.granit_lexemes.specs.PlainEvent.{PlainEvent, EventKind, StreamEnd, DocumentEnd, Comment}
use Rattle.granit_restart.proofs.TurnwiseLaws.{failing_on, skip_on}
use Rattle.granit_restart.specs.Ahead.{AheadOf, not_ahead, turn_made, AlikeNext, is_note, OnlyNotes}
use Rattle.granit_restart.specs.Calls.{failing}
use Rattle.granit_restart.specs.Header.{is_directives}
use Rattle.granit_restart.specs.Looking.{behind_waiting, look_ahead, look_behind, look_by, look_in, told_by}
use Rattle.granit_restart.specs.Looking.{told_event, turn_ahead}
use Rattle.granit_restart.specs.Skipping.{Ahead, NoEnd, BehindDocument, AtStreamEnd, ahead}
use Rattle.granit_restart.specs.Skipping.{ahead_by, skip_by_turns, skip_ahead, skip_in, skip_turn, with_pending}
use Rattle.granit_steps.proofs.StepLaws.{step_turn-Shortens}
use Rattle.granit_steps.specs.Steps.{StepState, Turn, first_pending, next_event, settle, step_size, step_turn}
use Rattle.granit_steps.specs.Told.{GivesEvents, gives_end, gives_fault, gives_event}

module _ (o : OptionsData) where
  further : (s t u : StepState) → AheadOf o s t → AheadOf o t u → AheadOf o s u
  further s t u p not_ahead = p
  further s t u p (turn_made {t = v} q notes e) = turn_made (further s t v p q) notes e

  -- ---- one turn ahead

  -- a turn, with what it gives behind what waits
  pub record OneTurn (s t : StepState) : Type 0 where
    pub given : List PlainEvent
    pub behind : StepState
    pub turn : step_turn o (with_pending [] s) ≡ Ok (Some given, behind)
    pub is : t ≡ with_pending (s.pending ++ behind.pending) behind

  abbrev pub given_in : Turn → Option (List PlainEvent)
  given_in (Ok x) = x.0
  given_in (Err f) = None

  abbrev pub state_in : StepState → Turn → StepState
  state_in s (Ok x) = x.1
  state_in s (Err f) = s

  one_by : (s t : StepState) (given : List PlainEvent) (r : Turn) → step_turn o (with_pending [] s) ≡ r
      → behind_waiting s.pending r ≡ Ok (Some given, t) → OneTurn s t
  one_by s t given (Ok (Some g, u)) is e = record {
    given = g;
    behind = u;
    turn = is;
    is = sym (ap (state_in t) e);
  }
  one_by s t given (Ok (None, u)) is e = absurd (let f : None ≡ Some given = ap given_in e in cc)
  one_by s t given (Err f) is e = absurd (let g : None ≡ Some given = ap given_in e in cc)

  pub one : (s t : StepState) (given : List PlainEvent) → turn_ahead o s ≡ Ok (Some given, t) → OneTurn s t
  one s t given e = one_by s t given (step_turn o (with_pending [] s)) refl e

  -- with other events in front
  one_ahead : (s t : StepState) (x : OneTurn s t) (es : List PlainEvent) → OnlyNotes es
      → AheadOf o (with_pending es s) (with_pending (es ++ x.behind.pending) x.behind)
  one_ahead s t x es notes = turn_made not_ahead notes (ap (behind_waiting es) x.turn)

  -- ---- one event

  abbrev pub Next : Type 0
  Next = Result (Option PlainEvent × StepState) Fault

  abbrev pub first_of : Result (List PlainEvent × StepState) Fault → Next
  first_of r = r >>= λ x. Ok (first_pending x.1.pending x.1)

  front_first : (es : List PlainEvent) (r : Result (List PlainEvent × StepState) Fault)
      → first_of (with_front es r) ≡ first_of r
  front_first es (Ok x) = refl
  front_first es (Err f) = refl

  waits_turn : (s : StepState) (e : PlainEvent) (es : List PlainEvent)
      → step_turn o (with_pending (e ∷ es) s) ≡ Ok (None, with_pending (e ∷ es) s)
  unfolding step_turn
  waits_turn s e es = refl

  pub waits_next : (s : StepState) (e : PlainEvent) (es : List PlainEvent)
      → next_event o (with_pending (e ∷ es) s) ≡ Ok (Some e, with_pending es s)
  unfolding next_event
  waits_next s e es =
      ap first_of (pieces_done step_size (step_turn o) (with_pending (e ∷ es) s) (with_pending (e ∷ es) s)
      (waits_turn s e es))

  pub turn_next : (s t : StepState) (given : List PlainEvent) → step_turn o s ≡ Ok (Some given, t)
      → next_event o s ≡ next_event o t
  unfolding next_event
  turn_next s t given e =
      ap first_of (pieces_more step_size (step_turn o) (step_turn-Shortens o) s t given e)
      ∙ front_first given (settle o t)

  alike_same : (r : Next) → AlikeNext o r r
  alike_same (Ok (Some e, s)) = (s, not_ahead, refl)
  alike_same (Ok (None, s)) = refl
  alike_same (Err f) = refl

  one_next : (s t : StepState) (es : List PlainEvent) → s.pending ≡ es → OnlyNotes es → OneTurn s t
      → AlikeNext o (next_event o s) (next_event o t)
  one_next s t [] none notes x =
      let same : with_pending [] s ≡ s = ap (λ es. with_pending es s) (sym none) in
      let turn : step_turn o s ≡ Ok (Some x.given, x.behind) = ap (step_turn o) (sym same) ∙ x.turn in
      let is : t ≡ x.behind =
      x.is ∙ ap (λ (es : List PlainEvent). with_pending (es ++ x.behind.pending) x.behind) none in
      subst (AlikeNext o (next_event o s)) (turn_next s x.behind x.given turn ∙ ap (next_event o) (sym is))
      (alike_same (next_event o s))
  one_next s t (e ∷ es) waits notes x =
      let same : s ≡ with_pending (e ∷ es) s = ap (λ es. with_pending es s) waits in
      let is : t ≡ with_pending (e ∷ (es ++ x.behind.pending)) x.behind =
      x.is ∙ ap (λ (es : List PlainEvent). with_pending (es ++ x.behind.pending) x.behind) waits in
      subst (λ r. AlikeNext o r (next_event o t)) (sym (ap (next_event o) same ∙ waits_next s e es)) (
        with_pending (es ++ x.behind.pending) x.behind,
        one_ahead s t x es notes.1,
        ap (next_event o) is ∙ waits_next x.behind e (es ++ x.behind.pending),
      )

  alike_then : (a b c : Next) → AlikeNext o a b → AlikeNext o b c → AlikeNext o a c
  alike_then (Ok (Some e, s)) b c p q =
      let more : AlikeNext o (Ok (Some e, p.0)) c = subst (λ b. AlikeNext o b c) p.2 q in
      (more.0, further s p.0 more.0 p.1 more.1, more.2)
  alike_then (Ok (None, s)) b c p q = subst (λ b. AlikeNext o b c) p q
  alike_then (Err f) b c p q = subst (λ b. AlikeNext o b c) p q

  -- the next event is the same
  pub next_alike : (s t : StepState) → AheadOf o s t → AlikeNext o (next_event o s) (next_event o t)
  next_alike s t not_ahead = alike_same (next_event o s)
  next_alike s t (turn_made {t = u} {given = given} p notes e) =
      alike_then (next_event o s) (next_event o u) (next_event o t) (next_alike s u p)
      (one_next u t u.pending refl notes (one u t given e))

  -- ---- all events

  -- they give the same events
  pub gives_alike : (s t : StepState) (es : List PlainEvent) (end : Option Fault) → AheadOf o s t
      → GivesEvents o s es end → GivesEvents o t es end
  gives_alike s t [] None p (gives_end e) =
      let a = subst (λ r. AlikeNext o r (next_event o t)) e (next_alike s t p) in gives_end a
  gives_alike s t [] (Some f) p (gives_fault e) =
      let a = subst (λ r. AlikeNext o r (next_event o t)) e (next_alike s t p) in gives_fault a
  gives_alike s t (x ∷ es) end p (gives_event {after = after} e more) =
      let a : AlikeNext o (Ok (Some x, after)) (next_event o t) =
      subst (λ r. AlikeNext o r (next_event o t)) e (next_alike s t p) in
      gives_event a.2 (gives_alike after a.0 es end a.1 more)

  abbrev event_in : Next → Option PlainEvent
  event_in (Ok x) = x.0
  event_in (Err f) = None

  abbrev after_in : StepState → Next → StepState
  after_in s (Ok x) = x.1
  after_in s (Err f) = s

  abbrev fault_in : Next → Option Fault
  fault_in (Ok x) = None
  fault_in (Err f) = Some f

  ends_back : (s : StepState) (r n : Next) (t : StepState) → next_event o s ≡ r → AlikeNext o r n → n ≡ Ok (None, t)
      → GivesEvents o s [] None
  ends_back s (Ok (Some x, u)) n t is a e =
      absurd (let f : Some x ≡ None = ap event_in (sym a.2 ∙ e) in cc)
  ends_back s (Ok (None, u)) n t is a e = gives_end is
  ends_back s (Err f) n t is a e = absurd (let g : Some f ≡ None = ap fault_in (sym a ∙ e) in cc)

  same_fault : (f g : Fault) → Some f ≡ Some g → f ≡ g
  same_fault f g e = cc

  fails_back : (s : StepState) (r n : Next) (f : Fault) → next_event o s ≡ r → AlikeNext o r n → n ≡ Err f
      → GivesEvents o s [] (Some f)
  fails_back s (Ok (Some x, u)) n f is a e =
      absurd (let g : None ≡ Some f = ap fault_in (sym a.2 ∙ e) in cc)
  fails_back s (Ok (None, u)) n f is a e = absurd (let g : None ≡ Some f = ap fault_in (sym a ∙ e) in cc)
  fails_back s (Err g) n f is a e =
      subst (λ f. GivesEvents o s [] (Some f)) (same_fault g f (ap fault_in (sym a ∙ e))) (gives_fault is)

  same_event : (x y : PlainEvent) → Some x ≡ Some y → x ≡ y
  same_event x y e = cc

  event_back : (s : StepState) (r n : Next) (x : PlainEvent) (t : StepState) (es : List PlainEvent)
      (end : Option Fault) → ((u : StepState) → AheadOf o u t → GivesEvents o u es end) → next_event o s ≡ r
      → AlikeNext o r n → n ≡ Ok (Some x, t) → GivesEvents o s (x ∷ es) end
  event_back s (Ok (Some y, u)) n x t es end more is a e =
      let both = sym a.2 ∙ e in
      subst (λ y. GivesEvents o s (y ∷ es) end) (same_event y x (ap event_in both))
      (gives_event is (more u (subst (AheadOf o u) (ap (after_in t) both) a.1)))
  event_back s (Ok (None, u)) n x t es end more is a e =
      absurd (let g : None ≡ Some x = ap event_in (sym a ∙ e) in cc)
  event_back s (Err f) n x t es end more is a e =
      absurd (let g : None ≡ Some x = ap event_in (sym a ∙ e) in cc)

  pub gives_back : (s t : StepState) (es : List PlainEvent) (end : Option Fault) → AheadOf o s t
      → GivesEvents o t es end → GivesEvents o s es end
  gives_back s t [] None p (gives_end {after = after} e) =
      ends_back s (next_event o s) (next_event o t) after refl (next_alike s t p) e
  gives_back s t [] (Some f) p (gives_fault e) =
      fails_back s (next_event o s) (next_event o t) f refl (next_alike s t p) e
  gives_back s t (x ∷ es) end p (gives_event {after = after} e more) =
      event_back s (next_event o s) (next_event o t) x after es end (λ u q. gives_back u after es end q more) refl
      (next_alike s t p) e

  -- ---- the look

  note_told : (kind : EventKind) (room : ℕ) (m : Mark) (later : ℕ → Option (Result Bool Fault)) (es : List PlainEvent)
      → ((left : ℕ) → later left ≡ None → OnlyNotes es) → told_event room kind m later ≡ None
      → (is_note kind ≡ true) × OnlyNotes es
  note_told (Comment text placement) zero m later es more e = absurd (cc)
  note_told (Comment text placement) (suc left) m later es more e = (refl, more left e)
  note_told StreamEnd room m later es more e = absurd (cc)
  note_told kind room m later es more e = absurd (cc)

  -- events that tell nothing are comments
  pub notes_told : (room : ℕ) (es : List PlainEvent) → told_by room es ≡ None → OnlyNotes es
  notes_told room [] e = tt
  notes_told room (x ∷ es) e =
      note_told x.kind room x.span.start (λ left. told_by left es) es (λ left f. notes_told left es f) e

  look_turn : (room n : ℕ) (s : StepState) (r : Turn) → ((t : StepState) → AheadOf o t (look_in o room n t).1)
      → OnlyNotes s.pending → turn_ahead o s ≡ r → AheadOf o s (look_behind (look_in o room n) s r).1
  look_turn room n s (Ok (Some es, t)) more notes e = by (is_directives t.parser.stage)
    where
      by : (b : Bool) → AheadOf o s (if b then (Ok true, t) else look_in o room n t).1
      by true = turn_made not_ahead notes e
      by false = further s t (look_in o room n t).1 (turn_made not_ahead notes e) (more t)
  look_turn room n s (Ok (None, t)) more notes e = not_ahead
  look_turn room n s (Err f) more notes e = not_ahead

  look_told : (room n : ℕ) (s : StepState) (told : Option (Result Bool Fault)) → told_by room s.pending ≡ told
      → ((t : StepState) → AheadOf o t (look_in o room n t).1)
      → AheadOf o s (look_by o (look_in o room n) s told).1
  look_told room n s (Some x) is more = not_ahead
  look_told room n s None is more = by (is_directives s.parser.stage)
    where
      by : (b : Bool) → AheadOf o s (if b then (Ok true, s) else look_behind (look_in o room n) s (turn_ahead o s)).1
      by true = not_ahead
      by false = look_turn room n s (turn_ahead o s) more (notes_told room s.pending is) refl

  looks_ahead : (room n : ℕ) (s : StepState) → AheadOf o s (look_in o room n s).1
  looks_ahead room zero s = not_ahead
  looks_ahead room (suc n) s = look_told room n s (told_by room s.pending) refl (looks_ahead room n)

  pub look_is_ahead : (room : ℕ) (s : StepState) → AheadOf o s (look_ahead o room s).1
  look_is_ahead room s = looks_ahead room (suc (step_size s)) s

  -- ---- skipping

  abbrev ahead_with : List PlainEvent → Ahead → Ahead → Ahead
  ahead_with fs later NoEnd = later
  ahead_with fs later (BehindDocument es) = BehindDocument (es ++ fs)
  ahead_with fs later (AtStreamEnd es) = AtStreamEnd (es ++ fs)

  ahead_kind : (kind : EventKind) (x : PlainEvent) (es fs : List PlainEvent) (a b : Ahead)
      → b ≡ ahead_with fs (ahead fs) a
      → ahead_by kind x (es ++ fs) b ≡ ahead_with fs (ahead fs) (ahead_by kind x es a)
  ahead_kind DocumentEnd x es fs a b e = refl
  ahead_kind StreamEnd x es fs a b e = refl
  ahead_kind kind x es fs a b e = e

  ahead_append : (es fs : List PlainEvent) → ahead (es ++ fs) ≡ ahead_with fs (ahead fs) (ahead es)
  ahead_append [] fs = refl
  ahead_append (x ∷ es) fs = ahead_kind x.kind x es fs (ahead es) (ahead (es ++ fs)) (ahead_append es fs)

  -- what waits in front is dropped
  skip_waiting : (s : StepState) (es : List PlainEvent) → ahead es ≡ ahead s.pending
      → skip_by_turns o (with_pending es s) ≡ skip_by_turns o s
  skip_waiting s es e =
      ap (skip_ahead (λ t. skip_turn (skip_in o (step_size s)) t (step_turn o t)) s) e

  note_no_end : (kind : EventKind) (e : PlainEvent) (es : List PlainEvent) (later : Ahead) → is_note kind ≡ true
      → ahead_by kind e es later ≡ later
  note_no_end (Comment text placement) e es later is = refl
  note_no_end kind e es later is = absurd (cc)

  notes_no_end : (es : List PlainEvent) → OnlyNotes es → ahead es ≡ NoEnd
  notes_no_end [] notes = refl
  notes_no_end (e ∷ es) notes = note_no_end e.kind e es (ahead es) notes.0 ∙ notes_no_end es notes.1

  one_skip : (s t : StepState) → OnlyNotes s.pending → OneTurn s t → skip_by_turns o s ≡ skip_by_turns o t
  one_skip s t notes x =
      let none = notes_no_end s.pending notes in
      let same : ahead (s.pending ++ x.behind.pending) ≡ ahead x.behind.pending =
      ahead_append s.pending x.behind.pending ∙ ap (ahead_with x.behind.pending (ahead x.behind.pending)) none in
      skip_on o s x.behind x.given none x.turn
      ∙ sym (ap (skip_by_turns o) x.is ∙ skip_waiting x.behind (s.pending ++ x.behind.pending) same)

  -- skipping ends in the same state
  pub skip_alike : (s t : StepState) → AheadOf o s t → skip_by_turns o s ≡ skip_by_turns o t
  skip_alike s t not_ahead = refl
  skip_alike s t (turn_made {t = u} {given = given} p notes e) = skip_alike s u p ∙ one_skip u t notes (one u t given e)

  -- ---- the turn that fails

  one_failing : (s t : StepState) (es : List PlainEvent) (f : Fault) → s.pending ≡ es → OneTurn s t
      → next_event o s ≡ Err f → failing o s ≡ failing o t
  one_failing s t [] f none x e =
      let same : with_pending [] s ≡ s = ap (λ es. with_pending es s) (sym none) in
      let is : t ≡ x.behind =
      x.is ∙ ap (λ (es : List PlainEvent). with_pending (es ++ x.behind.pending) x.behind) none in
      failing_on o s x.behind x.given (ap (step_turn o) (sym same) ∙ x.turn) ∙ ap (failing o) (sym is)
  one_failing s t (y ∷ es) f waits x e =
      let same : s ≡ with_pending (y ∷ es) s = ap (λ es. with_pending es s) waits in
      absurd (let g : None ≡ Some f = ap fault_in (sym (waits_next s y es) ∙ ap (next_event o) (sym same) ∙ e) in cc)

  -- it is the same one
  pub failing_alike : (s t : StepState) (f : Fault) → AheadOf o s t → next_event o s ≡ Err f
      → failing o s ≡ failing o t
  failing_alike s t f not_ahead e = refl
  failing_alike s t f (turn_made {t = u} {given = given} p notes turn) e =
      let a : next_event o u ≡ Err f = subst (λ r. AlikeNext o r (next_event o u)) e (next_alike s u p) in
      failing_alike s u f p e ∙ one_failing u t u.pending f refl (one u t given turn) a
