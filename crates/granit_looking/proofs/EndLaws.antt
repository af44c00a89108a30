-- Where no document comes, a look ahead answers alike from wherever turns ahead lead, and behind each comment.
use Rattle.std.proofs.Common.{◌≡◌, ℕ, zero, suc, ◌<◌, Bool, true, false, inl, inr, List, [], ◌∷◌, ◌++◌, Option}
use Rattle.std.proofs.Common.{Some, None, Result, Ok, Err, refl, sym, ap, subst, ◌∙◌, arith}
use Rattle.std.specs.Prelude.{if◌then◌else◌, not}
use Rattle.granit_base.specs.Place.{Mark}
use Rattle.granit_error.specs.FaultKind.{TooManyComments}
use Rattle.granit_error.specs.OptionsData.{OptionsData}
use Rattle.granit_lexemes.proofs.PieceLemmas.{pieces_done, pieces_fails}
use Rattle.granit_lexemes.specs.Basics.{fails_at}
use Rattle.granit_lexemes.specs.Outcome.{Fault}
use Rattle.granit_lexemes.specs.PlainEvent.{PlainEvent, EventKind, StreamEnd, Comment}
use Rattle.granit_lexemes.specs.Here.{text_len}
use Rattle.granit_machine.specs.Lexing.{FlaggedItem}
use Rattle.granit_machine.specs.Reader.{behind_read, lex_turn, read}
use Rattle.granit_restart.proofs.AheadLaws.{first_of, given_in, Next, one, OneTurn, state_in, turn_next, waits_next}
use Rattle.granit_restart.proofs.LookLaws.{Asked, follows_says, follows_told, Kept, kept, look_tells, Looks}
use Rattle.granit_restart.proofs.LookLaws.{looks_directives, looks_on, looks_over, looks_start, outside_stage}
use Rattle.granit_restart.proofs.LookLaws.{told_look, told_past, turn_looks, TurnLooks}
use Rattle.granit_restart.proofs.MarkLaws.{items, Sound, turned_sound}
use Rattle.granit_restart.specs.Ahead.{AheadOf, not_ahead, turn_made, all_given, ComesLast, end_left, end_waits}
use Rattle.granit_restart.specs.Ahead.{is_note, NoneComes}
use Rattle.granit_restart.specs.Following.{document_follows, past_event, past_events, past_items, past_read}
use Rattle.granit_restart.specs.Following.{past_reading, past_reads}
use Rattle.granit_restart.specs.Header.{is_directives}
use Rattle.granit_restart.specs.Looking.{behind_waiting, look_ahead, look_behind, look_by, look_in, Outside, told_by}
use Rattle.granit_restart.specs.Looking.{told_event, turn_ahead}
use Rattle.granit_restart.specs.Skipping.{with_pending}
use Rattle.granit_restart.specs.Turned.{Turned, turned_on, turned_with}
use Rattle.granit_steps.proofs.Futures.{turn_keeps, TurnKeeps}
use Rattle.granit_steps.proofs.StepLaws.{step_turn-Shortens}
use Rattle.granit_steps.specs.Steps.{first_pending, next_event, read_more, StepState, step_size, step_turn, Turn}

-- ---- what waits tells in any room

Told : ℕ → List PlainEvent → Type 0
Told room es = (x : Result Bool Fault) × (told_by room es ≡ Some x)

end_kind : (kind : EventKind) (room again : ℕ) (m : Mark) (es : List PlainEvent)
    → ((left now : ℕ) → told_by left es ≡ Some (Ok false) → (x : Result Bool Fault) × (told_by now es ≡ Some x))
    → told_event room kind m (λ left. told_by left es) ≡ Some (Ok false)
    → (x : Result Bool Fault) × (told_event again kind m (λ left. told_by left es) ≡ Some x)
end_kind (Comment text placement) zero again m es more e = absurd (cc)
end_kind (Comment text placement) (suc left) zero m es more e = (fails_at TooManyComments m, refl)
end_kind (Comment text placement) (suc left) (suc now) m es more e = more left now e
end_kind StreamEnd room again m es more e = (Ok false, refl)
end_kind kind room again m es more e = absurd (cc)

-- where the end waits, some answer is told in any room
end_tells : (es : List PlainEvent) (room again : ℕ) → told_by room es ≡ Some (Ok false)
    → (x : Result Bool Fault) × (told_by again es ≡ Some x)
end_tells [] room again e = absurd (cc)
end_tells (d ∷ es) room again e =
    end_kind d.kind room again d.span.start es (λ left now f. end_tells es left now f) e

told_kind_append : (kind : EventKind) (room : ℕ) (m : Mark) (es fs : List PlainEvent) (x : Result Bool Fault)
    → ((left : ℕ) → told_by left es ≡ Some x → told_by left (es ++ fs) ≡ Some x)
    → told_event room kind m (λ left. told_by left es) ≡ Some x
    → told_event room kind m (λ left. told_by left (es ++ fs)) ≡ Some x
told_kind_append (Comment text placement) zero m es fs x more e = e
told_kind_append (Comment text placement) (suc left) m es fs x more e = more left e
told_kind_append StreamEnd room m es fs x more e = e
told_kind_append kind room m es fs x more e = e

-- and what comes behind changes it no more
told_append : (es fs : List PlainEvent) (room : ℕ) (x : Result Bool Fault) → told_by room es ≡ Some x
    → told_by room (es ++ fs) ≡ Some x
told_append [] fs room x e = absurd (cc)
told_append (d ∷ es) fs room x e =
    told_kind_append d.kind room d.span.start es fs x (λ left f. told_append es fs left x f) e

module _ (o : OptionsData) where
  -- ---- one turn

  -- what is left of a turn: no document comes still, and the answer is the same in any room
  abbrev StaysNone : StepState → StepState → Type 0
  StaysNone s t = NoneComes o t × ((room : ℕ) → document_follows o room t ≡ document_follows o room s)

  waits_stay : (s t : StepState) (x : OneTurn o s t) (room : ℕ) → told_by room s.pending ≡ Some (Ok false)
      → StaysNone s t
  waits_stay s t x room e =
      let waits : (again : ℕ) (y : Result Bool Fault) → told_by again s.pending ≡ Some y
      → told_by again t.pending ≡ Some y = λ again y f.
      ap (λ (u : StepState). told_by again u.pending) x.is ∙ told_append s.pending x.behind.pending again y f in (
        end_waits room (waits room (Ok false) e),
        λ again. let y = end_tells s.pending room again e in
            follows_told o again t y.0 (waits again y.0 y.1) ∙ sym (follows_told o again s y.0 y.1),
      )

  -- what the events and what is left tell behind a turn that reads no directive
  says_behind : (s t : StepState) (x : OneTurn o s t) (room : ℕ) → is_directives s.parser.stage ≡ false
      → is_directives x.behind.parser.stage ≡ false → (k : Kept room s.pending)
      → Looks (Asked o s k.left) k.left (Asked o x.behind) x.behind.pending x.behind.parser
      → document_follows o room t ≡ document_follows o room s
  says_behind s t x room before stage k looks =
      ap (document_follows o room) x.is
      ∙ follows_says o room (with_pending (s.pending ++ x.behind.pending) x.behind) stage
      ∙ k.behind x.behind.pending (Asked o x.behind) ∙ by looks ∙ sym (k.past (Asked o s))
      ∙ sym (follows_says o room s before)
    where
      by : Looks (Asked o s k.left) k.left (Asked o x.behind) x.behind.pending x.behind.parser
          → past_events k.left x.behind.pending (Asked o x.behind) ≡ Asked o s k.left
      by (looks_on out e) = sym e
      by (looks_start told e) =
          told_past k.left x.behind.pending (Asked o x.behind) (Ok true) (told k.left) ∙ sym e
      by (looks_over other told e) =
          told_past k.left x.behind.pending (Asked o x.behind) (Ok false) (told k.left) ∙ sym e
      by (looks_directives other e) = absurd (let f = sym stage ∙ other in cc)

  turn_of : (s t : StepState) (x : OneTurn o s t) (left : ℕ) → Sound s → Outside s.parser
      → Looks (Asked o s left) left (Asked o x.behind) x.behind.pending x.behind.parser
  turn_of s t x left sound out = subst (TurnLooks o (Asked o s left) left) x.turn (turn_looks o s left sound out)

  says_by : (s t : StepState) (x : OneTurn o s t) (room : ℕ) (told : Option (Result Bool Fault)) → Sound s
      → Outside s.parser → is_directives x.behind.parser.stage ≡ false → told_by room s.pending ≡ told
      → document_follows o room t ≡ document_follows o room s
  says_by s t x room (Some y) sound out stage e =
      follows_told o room t y
      (ap (λ (u : StepState). told_by room u.pending) x.is ∙ told_append s.pending x.behind.pending room y e)
      ∙ sym (follows_told o room s y e)
  says_by s t x room None sound out stage e =
      let k = kept room s.pending e in
      says_behind s t x room (outside_stage o s out) stage k (turn_of s t x k.left sound out)

  turn_stays : (s t : StepState) (x : OneTurn o s t) (room : ℕ) (k : Kept room s.pending) → Turned o s
      → Outside s.parser → Asked o s k.left ≡ Ok false
      → Looks (Asked o s k.left) k.left (Asked o x.behind) x.behind.pending x.behind.parser → StaysNone s t
  turn_stays s t x room k turned out none (looks_on behind e) =
      let sound = turned_sound o s turned in
      let stage = outside_stage o x.behind behind in
      let same = says_by s t x room (told_by room s.pending) sound out stage refl in (
        end_left room
            (subst (Turned o) (sym x.is)
            (turned_with (s.pending ++ x.behind.pending) (turned_on (turned_with [] turned) x.turn)))
            (subst (λ (u : StepState). Outside u.parser) (sym x.is) behind)
            (same ∙ follows_says o room s (outside_stage o s out) ∙ k.past (Asked o s) ∙ none),
        λ again. says_by s t x again (told_by again s.pending) sound out stage refl,
      )
  turn_stays s t x room k turned out none (looks_start told e) = absurd (let f = sym none ∙ e in cc)
  turn_stays s t x room k turned out none (looks_over stage told e) =
      let sound = turned_sound o s turned in (
        end_waits room
            (ap (λ (u : StepState). told_by room u.pending) x.is ∙ k.told x.behind.pending ∙ told k.left),
        λ again. says_by s t x again (told_by again s.pending) sound out stage refl,
      )
  turn_stays s t x room k turned out none (looks_directives stage e) = absurd (let f = sym none ∙ e in cc)

  left_stays : (s t : StepState) (x : OneTurn o s t) (room : ℕ) (told : Option (Result Bool Fault)) → Turned o s
      → Outside s.parser → document_follows o room s ≡ Ok false → told_by room s.pending ≡ told → StaysNone s t
  left_stays s t x room (Some y) turned out none e =
      let same : y ≡ Ok false = sym (follows_told o room s y e) ∙ none in
      waits_stay s t x room (e ∙ ap (λ (r : Result Bool Fault). Some r) same)
  left_stays s t x room None turned out none e =
      let k = kept room s.pending e in
      turn_stays s t x room k turned out
      (sym (k.past (Asked o s)) ∙ sym (follows_says o room s (outside_stage o s out)) ∙ none)
      (turn_of s t x k.left (turned_sound o s turned) out)

  -- ---- all was given

  pub given_turn : (s : StepState) → s.queue ≡ [] → s.reading.ended ≡ true
      → step_turn o (with_pending [] s) ≡ Ok (None, with_pending [] s)
  unfolding step_turn
  given_turn s queue ended =
      let S : List FlaggedItem → StepState =
      λ q. record { reading = s.reading; queue = q; parser = s.parser; pending = [] } in
      subst (λ q. step_turn o (S q) ≡ Ok (None, S q)) (sym queue) (ap (λ b. read_more o b (S [])) ended)

  pub given_follows : (s : StepState) (room : ℕ) → s.pending ≡ [] → s.queue ≡ [] → s.reading.ended ≡ true
      → s.reading.fault ≡ None → is_directives s.parser.stage ≡ false → document_follows o room s ≡ Ok false
  unfolding lex_turn
  given_follows s room pending queue ended fault stage =
      let l = s.reading in
      let later = past_reads o (suc (text_len l.reader.here)) in
      follows_says o room s stage ∙ ap (λ es. past_events room es (Asked o s)) pending
      ∙ ap (λ q. past_items room (items q) (past_reading o l l.fault)) queue ∙ ap (λ f. past_reading o l f room) fault
      ∙ ap (λ b. past_read o later room (if b then Ok (None, l) else behind_read (read o l.reader) l.reader)) ended
      ∙ ap (λ b. Ok (not b)) ended

  pub given_look : (s : StepState) (room : ℕ) → s.pending ≡ [] → s.queue ≡ [] → s.reading.ended ≡ true
      → is_directives s.parser.stage ≡ false → (look_ahead o room s).0 ≡ Ok false
  given_look s room pending queue ended stage =
      let later = look_in o room (step_size s) in
      ap (λ es. (look_by o later s (told_by room es)).0) pending
      ∙ ap (λ b. (if b then (Ok true, s) else look_behind later s (turn_ahead o s)).0) stage
      ∙ ap (λ r. (look_behind later s (behind_waiting s.pending r)).0) (given_turn s queue ended)

  given_stays : (s t : StepState) (x : OneTurn o s t) (r : Turn) → step_turn o (with_pending [] s) ≡ r
      → r ≡ Ok (None, with_pending [] s) → StaysNone s t
  given_stays s t x r e none =
      absurd (let f : Some x.given ≡ None = ap (given_in o) (sym x.turn ∙ e ∙ none) in cc)

  none_stays : (s t : StepState) → NoneComes o s → OneTurn o s t → StaysNone s t
  none_stays s t (end_waits room e) x = waits_stay s t x room e
  none_stays s t (end_left room turned out none) x =
      left_stays s t x room (told_by room s.pending) turned out none refl
  none_stays s t (all_given pending queue ended fault stage) x =
      given_stays s t x (step_turn o (with_pending [] s)) refl (given_turn s queue ended)

  -- ---- turns ahead

  ahead_stays : (s t : StepState) → NoneComes o s → AheadOf o s t → StaysNone s t
  ahead_stays s t n not_ahead = (n, λ room. refl)
  ahead_stays s t n (turn_made {t = u} {given = given} p notes e) =
      let before = ahead_stays s u n p in
      let after = none_stays u t before.0 (one o u t given e) in
      (after.0, λ room. after.1 room ∙ before.1 room)

  look_here : (room : ℕ) (s : StepState) → NoneComes o s → (look_ahead o room s).0 ≡ document_follows o room s
  look_here room s (end_waits first e) =
      let x = end_tells s.pending first room e in
      told_look o room (suc (step_size s)) s x.0 (omega arith) x.1 ∙ sym (follows_told o room s x.0 x.1)
  look_here room s (end_left first turned out none) = look_tells o room s turned out
  look_here room s (all_given pending queue ended fault stage) =
      given_look s room pending queue ended stage ∙ sym (given_follows s room pending queue ended fault stage)

  -- a look answers alike from there
  pub look_none : (room : ℕ) (s t : StepState) → NoneComes o s → AheadOf o s t
      → (look_ahead o room t).0 ≡ document_follows o room s
  look_none room s t n p =
      let x = ahead_stays s t n p in look_here room t x.0 ∙ x.1 room

  -- ---- one event

  -- what is told behind the events that wait
  abbrev Rest : StepState → ℕ → Result Bool Fault
  Rest s left = if is_directives s.parser.stage then Ok true else Asked o s left

  note_follows : (s : StepState) (e : PlainEvent) (es : List PlainEvent) (text : _) (placement : _) (room : ℕ)
      → e.kind ≡ Comment text placement
      → document_follows o (suc room) (with_pending (e ∷ es) s) ≡ document_follows o room (with_pending es s)
  unfolding document_follows
  note_follows s e es text placement room is =
      ap (λ (kind : EventKind). past_event (suc room) kind e.span.start (λ left. past_events left es (Rest s))) is

  waiting_last : (kind : EventKind) (s : StepState) (e : PlainEvent) (es : List PlainEvent) (room : ℕ)
      → e.kind ≡ kind → told_event room kind e.span.start (λ left. told_by left es) ≡ Some (Ok false)
      → ComesLast o (with_pending (e ∷ es) s) e (with_pending es s)
  waiting_last (Comment text placement) s e es zero is told = absurd (cc)
  waiting_last (Comment text placement) s e es (suc left) is told =
      inr (ap is_note is, end_waits left told, λ room. note_follows s e es text placement room is)
  waiting_last StreamEnd s e es room is told = inl is
  waiting_last kind s e es room is told = absurd (cc)

  left_last : (kind : EventKind) (s : StepState) (e : PlainEvent) (es : List PlainEvent) (room : ℕ)
      → e.kind ≡ kind → Turned o (with_pending (e ∷ es) s) → Outside s.parser
      → past_event room kind e.span.start (λ left. past_events left es (Rest s)) ≡ Ok false
      → ComesLast o (with_pending (e ∷ es) s) e (with_pending es s)
  unfolding document_follows
  left_last (Comment text placement) s e es zero is turned out none = absurd (cc)
  left_last (Comment text placement) s e es (suc left) is turned out none = inr (
    ap is_note is,
    end_left left (turned_with es turned) out none,
    λ room. note_follows s e es text placement room is,
  )
  left_last StreamEnd s e es room is turned out none = inl is
  left_last kind s e es room is turned out none = absurd (cc)

  -- an event that waits
  waits_last : (s : StepState) (e : PlainEvent) (es : List PlainEvent) → NoneComes o (with_pending (e ∷ es) s)
      → ComesLast o (with_pending (e ∷ es) s) e (with_pending es s)
  unfolding document_follows
  waits_last s e es (end_waits room told) = waiting_last e.kind s e es room refl told
  waits_last s e es (end_left room turned out none) = left_last e.kind s e es room refl turned out none
  waits_last s e es (all_given pending queue ended fault stage) = absurd (cc)

  abbrev NextLast : StepState → Next o → Type 0
  NextLast s (Ok (Some e, after)) = ComesLast o s e after
  NextLast s (Ok (None, after)) = Unit {0}
  NextLast s (Err f) = Unit {0}

  last_before : (s t : StepState) (r : Next o) → StaysNone s t → NextLast t r → NextLast s r
  last_before s t (Ok (Some e, after)) stays (inl end) = inl end
  last_before s t (Ok (Some e, after)) stays (inr note) =
      inr (note.0, note.1, λ room. sym (stays.1 (suc room)) ∙ note.2 room)
  last_before s t (Ok (None, after)) stays n = tt
  last_before s t (Err f) stays n = tt

  abbrev AllLast : ℕ → Type 0
  AllLast n = (s : StepState) → step_size s < n → NoneComes o s → NextLast s (next_event o s)

  done_is : (s t : StepState) → NoneComes o s → s.pending ≡ [] → step_turn o s ≡ Ok (None, t) → t.pending ≡ []
  done_is s t (end_waits room told) none e =
      absurd (let f : None ≡ Some (Ok false) = ap (told_by room) (sym none) ∙ told in cc)
  done_is s t (end_left room turned out follows) none e =
      let sound : Sound s = turned_sound o s turned in
      let keeps : TurnKeeps o s (Ok (None, t)) = subst (TurnKeeps o s) e (turn_keeps o s sound.ready) in
      ap (λ (u : StepState). u.pending) keeps.0 ∙ none
  done_is s t (all_given pending queue ended fault stage) none e =
      let same : with_pending [] s ≡ s = ap (λ es. with_pending es s) (sym none) in
      ap (λ (u : StepState). u.pending)
      (ap (state_in o t) (sym e ∙ ap (step_turn o) (sym same) ∙ given_turn s queue ended))

  turn_last : (n : ℕ) (s : StepState) (r : Turn) → AllLast n → step_size s < suc n → NoneComes o s → s.pending ≡ []
      → step_turn o s ≡ r → NextLast s (next_event o s)
  unfolding next_event
  turn_last n s (Ok (Some given, t)) more h none empty e =
      let same : with_pending [] s ≡ s = ap (λ es. with_pending es s) (sym empty) in
      let x : OneTurn o s t = record {
        given = given;
        behind = t;
        turn = ap (step_turn o) same ∙ e;
        is = ap (λ (es : List PlainEvent). with_pending (es ++ t.pending) t) (sym empty);
      } in
      let less = step_turn-Shortens o s t given e in
      let stays = none_stays s t none x in
      subst (NextLast s) (sym (turn_next o s t given e))
      (last_before s t (next_event o t) stays (more t (omega (arith, less, h)) stays.0))
  turn_last n s (Ok (None, t)) more h none empty e =
      subst (NextLast s)
      (sym (ap (first_of o) (pieces_done step_size (step_turn o) s t e)
      ∙ ap (λ es. Ok (first_pending es t)) (done_is s t none empty e))) tt
  turn_last n s (Err f) more h none empty e =
      subst (NextLast s) (sym (ap (first_of o) (pieces_fails step_size (step_turn o) s f e))) tt

  event_last : (n : ℕ) (s : StepState) (es : List PlainEvent) → AllLast n → step_size s < suc n → NoneComes o s
      → s.pending ≡ es → NextLast s (next_event o s)
  event_last n s [] more h none e = turn_last n s (step_turn o s) more h none e refl
  event_last n s (x ∷ es) more h none e =
      let same : s ≡ with_pending (x ∷ es) s = ap (λ es. with_pending es s) e in
      subst (λ u. NextLast u (next_event o u)) (sym same)
      (subst (NextLast (with_pending (x ∷ es) s)) (sym (waits_next o s x es))
      (waits_last s x es (subst (NoneComes o) same none)))

  all_last : (n : ℕ) → AllLast n
  all_last zero s h none = absurd (omega arith)
  all_last (suc n) s h none = event_last n s s.pending (all_last n) h none refl

  -- and so it stays behind each comment
  pub next_none : (s after : StepState) (e : PlainEvent) → NoneComes o s → next_event o s ≡ Ok (Some e, after)
      → ComesLast o s e after
  next_none s after e none is =
      subst (NextLast s) is (all_last (suc (step_size s)) s (omega arith) none)
