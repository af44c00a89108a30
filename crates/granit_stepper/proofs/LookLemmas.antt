-- A stepper looks turn by turn whether another document is there, as the machine does.
use Rattle.std.proofs.Common.{◌≡◌, ℕ, zero, suc, ◌+◌, ◌-◌, ◌≤◌, Bool, true, false, List, [], ◌∷◌, ◌++◌, drop}
use Rattle.std.proofs.Common.{Option, Some, None, Result, Ok, Err, refl, sym, ap, subst, ◌∙◌, ◌⊎◌, inl, inr, arith}
use Rattle.std.specs.Prelude.{IfOk, IfSome, if◌then◌else◌}
use Rattle.std.specs.List.{slice_get}
use Rattle.granit_base.specs.Place.{Mark, Unread}
use Rattle.granit_error.specs.FaultKind.{TooManyComments}
use Rattle.granit_error.specs.OptionsData.{OptionsData}
use Rattle.granit_error.specs.Refused.{Refused}
use Rattle.granit_lexemes.specs.Basics.{fails_at}
use Rattle.granit_lexemes.specs.Outcome.{Fault, fault_at}
use Rattle.granit_lexemes.specs.PlainEvent.{Comment, DocumentEnd, EventKind, PlainEvent, StreamEnd}
use Rattle.granit_machine.specs.Frames.{ParserState}
use Rattle.granit_restart.proofs.AheadLaws.{one}
use Rattle.granit_restart.proofs.LookTurns as looks
use Rattle.granit_restart.specs.Ahead.{AheadOf, OnlyNotes, is_note, not_ahead, turn_made}
use Rattle.granit_restart.specs.Header.{is_directives}
use Rattle.granit_restart.specs.Looking.{Look, behind_waiting, look_ahead, look_behind, told_by, told_event}
use Rattle.granit_restart.specs.Looking.{turn_ahead}
use Rattle.granit_restart.specs.Skipping.{with_pending}
use Rattle.granit_restart.specs.Turned.{Turned, turned_on, turned_with}
use Rattle.granit_stepper.proofs.PassLemmas.{ahead_waits}
use Rattle.granit_stepper.proofs.SkipLemmas.{none_ahead}
use Rattle.granit_stepper.specs.Numbers.{GivesOr, RefusesNumber}
use Rattle.granit_stepper.specs.Recovering.{Looks, LooksOn, front_in, front_kind}
use Rattle.granit_stepper.specs.Refusals.{HoldsRefusal, StandsAhead}
use Rattle.granit_stepper.specs.Stepping.{StandsIn, Stepping, turn_view}
use Rattle.granit_stepper.specs.declared.recovery.Front.{Front}
use Rattle.granit_stepper.specs.declared.recovery.Front.TheVariants as fronts
use Rattle.granit_steps.specs.Steps.{StepState, Turn, step_turn}

-- ---- what waits

-- the first events, so many, are comments
abbrev pub NotesUpTo : ℕ → List PlainEvent → Type 0
NotesUpTo zero es = Unit {0}
NotesUpTo (suc n) [] = ⊥
NotesUpTo (suc n) (e ∷ es) = (is_note e.kind ≡ true) × NotesUpTo n es

same_event : (x y : PlainEvent) → Some x ≡ Some y → x ≡ y
same_event x y e = cc

pub notes_on : (n : ℕ) (es : List PlainEvent) (e : PlainEvent) → NotesUpTo n es → slice_get es n ≡ Some e
    → is_note e.kind ≡ true → NotesUpTo (suc n) es
notes_on zero [] e notes is note = absurd (cc)
notes_on zero (x ∷ xs) e notes is note =
    (ap (λ (y : PlainEvent). is_note y.kind) (same_event x e is) ∙ note, tt)
notes_on (suc n) [] e notes is note = absurd notes
notes_on (suc n) (x ∷ xs) e notes is note = (notes.0, notes_on n xs e notes.1 is note)

pub notes_more : (n : ℕ) (es fs : List PlainEvent) → NotesUpTo n es → NotesUpTo n (es ++ fs)
notes_more zero es fs notes = tt
notes_more (suc n) [] fs notes = absurd notes
notes_more (suc n) (e ∷ es) fs notes = (notes.0, notes_more n es fs notes.1)

pub notes_all : (n : ℕ) (es : List PlainEvent) → NotesUpTo n es → slice_get es n ≡ None → OnlyNotes es
notes_all zero [] notes is = tt
notes_all zero (x ∷ xs) notes is = absurd (cc)
notes_all (suc n) [] notes is = absurd notes
notes_all (suc n) (x ∷ xs) notes is = (notes.0, notes_all n xs notes.1 is)

-- what they tell is what the others tell, where there is room for them
told_note : (room : ℕ) (kind : EventKind) (mark : Mark) (more : ℕ → Option (Result Bool Fault))
    → is_note kind ≡ true → told_event (suc room) kind mark more ≡ more room
told_note room (Comment text placement) mark more note = refl
told_note room kind mark more note = absurd (cc)

told_notes : (n room left : ℕ) (es : List PlainEvent) → room ≡ n + left → NotesUpTo n es
    → told_by room es ≡ told_by left (drop n es)
told_notes zero room left es is notes =
    let same : room ≡ left = omega arith in ap (λ (r : ℕ). told_by r es) same
told_notes (suc n) room left [] is notes = absurd notes
told_notes (suc n) zero left (e ∷ es) is notes = absurd (let clash : 0 ≡ suc n + left = is in omega arith)
told_notes (suc n) (suc room) left (e ∷ es) is notes =
    told_note room e.kind e.span.start (λ r. told_by r es) notes.0
    ∙ told_notes n room left es (omega arith) notes.1

drop_at : (n : ℕ) (es : List PlainEvent) (e : PlainEvent) → slice_get es n ≡ Some e → drop n es ≡ e ∷ drop (suc n) es
drop_at zero [] e is = absurd (cc)
drop_at zero (x ∷ xs) e is = ap (λ (y : PlainEvent). y ∷ xs) (same_event x e is)
drop_at (suc n) [] e is = absurd (cc)
drop_at (suc n) (x ∷ xs) e is = drop_at n xs e is

drop_none : (n : ℕ) (es : List PlainEvent) → slice_get es n ≡ None → drop n es ≡ []
drop_none zero [] is = refl
drop_none (suc n) [] is = refl
drop_none zero (x ∷ xs) is = absurd (cc)
drop_none (suc n) (x ∷ xs) is = drop_none n xs is

module _ (n room : ℕ) (es : List PlainEvent) (within : n ≤ room) (notes : NotesUpTo n es) where
  told_at : (e : PlainEvent) (told : Option (Result Bool Fault)) → slice_get es n ≡ Some e
      → ((left : ℕ) → left ≡ room - n → told_event left e.kind e.span.start (λ r. told_by r (drop (suc n) es)) ≡ told)
      → told_by room es ≡ told
  told_at e told is tells =
      told_notes n room (room - n) es (omega arith) notes
      ∙ ap (told_by (room - n)) (drop_at n es e is)
      ∙ tells (room - n) refl

  pub told_none : slice_get es n ≡ None → told_by room es ≡ None
  told_none is =
      told_notes n room (room - n) es (omega arith) notes ∙ ap (told_by (room - n)) (drop_none n es is)

  -- ---- by what stands behind them

  stream_tells : (left : ℕ) (kind : EventKind) (mark : Mark) (more : ℕ → Option (Result Bool Fault))
      → front_kind kind ≡ fronts.StreamEnd → told_event left kind mark more ≡ Some (Ok false)
  stream_tells left StreamEnd mark more is = refl
  stream_tells left kind mark more is = absurd (cc)

  other_tells : (left : ℕ) (kind : EventKind) (mark : Mark) (more : ℕ → Option (Result Bool Fault))
      → front_kind kind ≡ fronts.Another ⊎ front_kind kind ≡ fronts.DocumentEnd
      → told_event left kind mark more ≡ Some (Ok true)
  other_tells left (Comment text placement) mark more (inl is) = absurd (cc)
  other_tells left (Comment text placement) mark more (inr is) = absurd (cc)
  other_tells left StreamEnd mark more (inl is) = absurd (cc)
  other_tells left StreamEnd mark more (inr is) = absurd (cc)
  other_tells left kind mark more is = refl

  full_tells : (left : ℕ) (kind : EventKind) (mark : Mark) (more : ℕ → Option (Result Bool Fault)) → left ≡ 0
      → front_kind kind ≡ fronts.Comment → told_event left kind mark more ≡ Some (fails_at TooManyComments mark)
  full_tells zero (Comment text placement) mark more none is = refl
  full_tells zero kind mark more none is = absurd (cc)
  full_tells (suc left) kind mark more none is = absurd (omega (arith, none))

  pub told_stream : front_in (slice_get es n) ≡ fronts.StreamEnd → told_by room es ≡ Some (Ok false)
  told_stream is = by_front (slice_get es n) refl is
    where
      by_front : (f : Option PlainEvent) → slice_get es n ≡ f → front_in f ≡ fronts.StreamEnd
          → told_by room es ≡ Some (Ok false)
      by_front None at is = absurd (cc)
      by_front (Some e) at is = told_at e (Some (Ok false)) at
          (λ left eq. stream_tells left e.kind e.span.start (λ r. told_by r (drop (suc n) es)) is)

  pub told_other : front_in (slice_get es n) ≡ fronts.Another ⊎ front_in (slice_get es n) ≡ fronts.DocumentEnd
      → told_by room es ≡ Some (Ok true)
  told_other is = by_front (slice_get es n) refl is
    where
      by_front : (f : Option PlainEvent) → slice_get es n ≡ f
          → front_in f ≡ fronts.Another ⊎ front_in f ≡ fronts.DocumentEnd → told_by room es ≡ Some (Ok true)
      by_front None at (inl is) = absurd (cc)
      by_front None at (inr is) = absurd (cc)
      by_front (Some e) at is = told_at e (Some (Ok true)) at
          (λ left eq. other_tells left e.kind e.span.start (λ r. told_by r (drop (suc n) es)) is)

  -- a comment is one too many
  pub told_full : (e : PlainEvent) → slice_get es n ≡ Some e → front_in (slice_get es n) ≡ fronts.Comment → room ≤ n
      → told_by room es ≡ Some (fails_at TooManyComments e.span.start)
  told_full e at is full =
      let here : front_kind e.kind ≡ fronts.Comment = sym (ap front_in at) ∙ is in
      told_at e (Some (fails_at TooManyComments e.span.start)) at
      (λ left eq. full_tells left e.kind e.span.start (λ r. told_by r (drop (suc n) es)) (omega (arith, eq, full)) here)

no_note : (kind : EventKind) → front_kind kind ≡ fronts.Comment → is_note kind ≡ true
no_note (Comment text placement) is = refl
no_note kind is = absurd (cc)

-- one more comment
pub notes_past : (n : ℕ) (es : List PlainEvent) → NotesUpTo n es → front_in (slice_get es n) ≡ fronts.Comment
    → NotesUpTo (suc n) es
notes_past n es notes is = by_front (slice_get es n) refl is
  where
    by_front : (f : Option PlainEvent) → slice_get es n ≡ f → front_in f ≡ fronts.Comment → NotesUpTo (suc n) es
    by_front None at is = absurd (cc)
    by_front (Some e) at is = notes_on n es e notes at (no_note e.kind is)

no_front : (kind : EventKind) → front_kind kind ≡ fronts.None → true ≡ false
no_front DocumentEnd is = absurd (cc)
no_front kind is = absurd (cc)

pub none_there : (n : ℕ) (es : List PlainEvent) → front_in (slice_get es n) ≡ fronts.None → slice_get es n ≡ None
none_there n es is = by_front (slice_get es n) is
  where
    by_front : (f : Option PlainEvent) → front_in f ≡ fronts.None → f ≡ None
    by_front None is = refl
    by_front (Some e) is = absurd (let clash : true ≡ false = no_front e.kind is in cc)

pub some_there : (n : ℕ) (es : List PlainEvent) → front_in (slice_get es n) ≡ fronts.Comment
    → (e : PlainEvent) × (slice_get es n ≡ Some e)
some_there n es is = by_front (slice_get es n) is
  where
    by_front : (f : Option PlainEvent) → front_in f ≡ fronts.Comment → (e : PlainEvent) × (f ≡ Some e)
    by_front None is = absurd (cc)
    by_front (Some e) is = (e, refl)

-- ---- turns made ahead

-- a stepper stands where the machine's look came, behind so many comments
pub record LooksAlong {I : Type 0} (unread : I → Unread → Type 0) (o : OptionsData) (room : ℕ) (s : Stepping I)
    (m : StepState) (kept : ℕ) : Type 0 where
  pub at : StepState
  pub before : AheadOf o m at
  pub alike : look_ahead o room at ≡ look_ahead o room m
  pub turned : Turned o at
  pub stands : StandsAhead unread s at
  pub notes : NotesUpTo kept at.pending

module _ {I : Type 0} (unread : I → Unread → Type 0) (o : OptionsData) (room : ℕ) (s : Stepping I) (m : StepState) where
  pub looks_first : StandsAhead unread s m → Turned o m → LooksAlong unread o room s m 0
  looks_first stands turned =
      record { at = m; before = not_ahead; alike = refl; turned = turned; stands = stands; notes = tt }

  module _ (kept : ℕ) (k : LooksAlong unread o room s m kept) where
    looks_as : (new : Stepping I) (n : StepState) (answer : Result Bool Fault) (result : Result Bool Refused)
        → look_ahead o room k.at ≡ (answer, n) → answer ≡ result → StandsAhead unread new n
        → Looks unread o room result new m
    looks_as new n answer result is same stands =
        let told : look_ahead o room m ≡ (answer, n) = sym k.alike ∙ is in
        inl (
          ap (λ (x : Look). x.0) told ∙ same,
          subst (StandsAhead unread new) (sym (ap (λ (x : Look). x.1) told)) stands,
        )

    -- what waits tells
    pub looks_told : (answer : Result Bool Fault) (result : Result Bool Refused)
        → told_by room k.at.pending ≡ Some answer → answer ≡ result → Looks unread o room result s m
    looks_told answer result is same =
        looks_as s k.at answer result (looks.look_told o room k.at answer is) same k.stands

    -- ---- by what waits behind the comments

    module _ (told : s.first ≡ None) (within : kept ≤ room) where
      waits : k.at.pending ≡ s.parser.given
      waits = ahead_waits unread s k.at k.stands told

      there : (f : Front) → f ≡ front_in (slice_get s.parser.given kept)
          → front_in (slice_get k.at.pending kept) ≡ f
      there f is = ap (λ (es : List PlainEvent). front_in (slice_get es kept)) waits ∙ sym is

      -- a comment
      pub looks_past : fronts.Comment ≡ front_in (slice_get s.parser.given kept)
          → LooksAlong unread o room s m (suc kept)
      looks_past is = record {
        at = k.at;
        before = k.before;
        alike = k.alike;
        turned = k.turned;
        stands = k.stands;
        notes = notes_past kept k.at.pending k.notes (there fronts.Comment is);
      }

      -- one too many
      pub looks_full : fronts.Comment ≡ front_in (slice_get s.parser.given kept) → room ≤ kept → (e : Refused)
          → IfSome (slice_get s.parser.given kept) (λ x. e ≡ fault_at TooManyComments x.span.start)
          → Looks unread o room (Err e) s m
      looks_full is full e why =
          let here = there fronts.Comment is in
          let x = some_there kept k.at.pending here in
          let same : e ≡ fault_at TooManyComments x.0.span.start = subst (λ (y : Option PlainEvent). IfSome y
          (λ z. e ≡ fault_at TooManyComments z.span.start))
          (ap (λ (es : List PlainEvent). slice_get es kept) (sym waits)
          ∙ x.1) why in
          looks_told (fails_at TooManyComments x.0.span.start) (Err e)
          (told_full kept room k.at.pending within k.notes x.0 x.1 here full) (ap Err (sym same))

      pub looks_stream : fronts.StreamEnd ≡ front_in (slice_get s.parser.given kept)
          → Looks unread o room (Ok false) s m
      looks_stream is =
          looks_told (Ok false) (Ok false)
          (told_stream kept room k.at.pending within k.notes (there fronts.StreamEnd is)) refl

      pub looks_other : (f : Front) → f ≡ front_in (slice_get s.parser.given kept)
          → f ≡ fronts.Another ⊎ f ≡ fronts.DocumentEnd → Looks unread o room (Ok true) s m
      looks_other f is other =
          let here = there f is in
          looks_told (Ok true) (Ok true) (told_other kept room k.at.pending within k.notes
          (elim other [ inl a ↦ inl (here ∙ a) | inr d ↦ inr (here ∙ d) ])) refl

      -- nothing waits behind them
      pub looks_none : fronts.None ≡ front_in (slice_get s.parser.given kept)
          → (told_by room k.at.pending ≡ None) × OnlyNotes k.at.pending
      looks_none is =
          let none = none_there kept k.at.pending (there fronts.None is) in
          (told_none kept room k.at.pending within k.notes none, notes_all kept k.at.pending k.notes none)

    module _ (none : told_by room k.at.pending ≡ None) (notes : OnlyNotes k.at.pending) (new : Stepping I) where
      -- one more turn was made
      pub looks_more : LooksOn unread o None new k.at → LooksAlong unread o room new m kept
      looks_more given =
          let t = given.0 in
          let turn = one o k.at t given.1 given.4 in
          record {
            at = t;
            before = turn_made k.before notes given.4;
            alike = sym (looks.look_on o room k.at t given.1 none given.3 given.4 given.5) ∙ k.alike;
            turned = subst (Turned o) (sym turn.is) (turned_with (k.at.pending ++ turn.behind.pending)
                (turned_on (turned_with [] k.turned) turn.turn));
            stands = inl given.2;
            notes = subst (λ (n : StepState). NotesUpTo kept n.pending) (sym turn.is)
                (notes_more kept k.at.pending turn.behind.pending k.notes);
          }

      -- it is known
      pub looks_known : (follows : Bool) → LooksOn unread o (Some follows) new k.at
          → Looks unread o room (Ok follows) new m
      looks_known follows (inl given) =
          looks_as new given.0 (Ok follows) (Ok follows)
          (looks.look_ends o room k.at (Ok follows, given.0) none given.2)
          refl given.1
      looks_known follows (inr left) = inr (ap Ok left.0, (k.at, k.before, left.1))

-- ---- one more turn at most

module _ {I : Type 0} (unread : I → Unread → Type 0) (o : OptionsData) (s : Stepping I) (m : StepState) where
  pub looks_directives : (n : StepState) → StandsIn unread s n → n ≡ m → is_directives m.parser.stage ≡ true
      → LooksOn unread o (Some true) s m
  looks_directives n at same is = inl (
    m,
    inl (subst (StandsIn unread s) same at),
    λ later. ap (λ (b : Bool). if b then (Ok true, m) else look_behind later m (turn_ahead o m)) is,
  )

  either : (b : Bool) (x : Look) → (if b then x else x) ≡ x
  either true x = refl
  either false x = refl

  -- a turn made ahead was refused
  pub looks_refused : HoldsRefusal unread s m → s.scanner.options ≡ o → LooksOn unread o (Some true) s m
  looks_refused h options =
      let fails : (step_turn o (with_pending [] m) ≡ Err h.error)
      ⊎ RefusesNumber s.renumbered o (with_pending [] m) h.error =
      subst (λ (p : OptionsData). (step_turn p (with_pending [] m) ≡ Err h.error)
      ⊎ RefusesNumber s.renumbered p (with_pending [] m) h.error) options h.refused.fails in
      elim fails [
        | inl is ↦ inl (
          m,
          inr h,
          λ later. ap (λ (r : Turn). if is_directives m.parser.stage then (Ok true, m)
              else look_behind later m (behind_waiting m.pending r)) is
              ∙ either (is_directives m.parser.stage) (Ok true, m),
        )
        | inr left ↦ inr (refl, (h.error, left, h))
      ]

  -- a turn that gives directives
  pub looks_begun : (t : StepState) (given : List PlainEvent) → StandsIn unread s t
      → turn_ahead o m ≡ Ok (Some given, t) → is_directives t.parser.stage ≡ true → is_directives m.parser.stage ≡ false
      → LooksOn unread o (Some true) s m
  looks_begun t given at turn is other = inl (
    t,
    inl at,
    λ later. ap (λ (b : Bool). if b then (Ok true, m) else look_behind later m (turn_ahead o m)) other
        ∙ ap (look_behind later m) turn ∙ ap (λ (b : Bool). if b then (Ok true, t) else later t) is,
  )

  -- no turn is left
  pub looks_over : (t : StepState) → StandsIn unread s t → t ≡ m → turn_ahead o m ≡ Ok (None, t)
      → is_directives m.parser.stage ≡ false → LooksOn unread o (Some false) s m
  looks_over t at same turn other = inl (
    m,
    inl (subst (StandsIn unread s) same at),
    λ later. ap (λ (b : Bool). if b then (Ok true, m) else look_behind later m (turn_ahead o m)) other
        ∙ ap (look_behind later m) turn,
  )

  pub looks_held : s.scanner.options ≡ o → (r : Result (Option Bool) Refused)
      → IfOk r (λ x. (x ≡ Some true) × HoldsRefusal unread s m) → IfOk r (λ x. LooksOn unread o x s m)
  looks_held options (Ok x) given =
      subst (λ (y : Option Bool). LooksOn unread o y s m) (sym given.0) (looks_refused given.1 options)
  looks_held options (Err e) given = tt

-- where no turn is left to make, by whether what stood there was known
pub looks_ended : {I : Type 0} (unread : I → Unread → Type 0) (o : OptionsData) (s new : Stepping I) (m : StepState)
    → StandsAhead unread s m → is_directives s.parser.stage ≡ false → (b : Bool) → b ≡ false
    → (StandsIn unread s m → GivesOr turn_view (Ok b) (StandsIn unread new) (turn_ahead o m)
    (RefusesNumber new.renumbered o (with_pending [] m)))
    → IfSome s.ahead (λ f. (◌≡◌ {A = Result Bool Refused} (Ok b) (Err f)) × (new ≡ record s { ahead = None }))
    → LooksOn unread o (Some false) new m
looks_ended unread o s new m (inl at) stage b is known over =
    let given = known at in
    let turn : turn_ahead o m ≡ Ok (None, given.0) =
    given.2 ∙ ap (λ (x : Bool). Ok (turn_view x, given.0)) is in
    looks_over unread o new m given.0 given.1 (none_ahead o m given.0 turn) turn
    (ap (λ (p : ParserState). is_directives p.stage) at.parser ∙ stage)
looks_ended unread o s new m (inr h) stage b is known over =
    let given = subst (λ (x : Option Refused). IfSome x
    (λ f. (◌≡◌ {A = Result Bool Refused} (Ok b) (Err f)) × (new ≡ record s { ahead = None }))) h.ahead over in
    absurd (let clash = given.0 in cc)
