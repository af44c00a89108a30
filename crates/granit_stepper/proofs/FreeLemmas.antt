-- Turns that want no memory.
use Rattle.std.proofs.Common.{◌≡◌, ◌⊎◌, inl, inr, ℕ, zero, suc, ◌+◌, ◌≤◌, Bool, true, false, ◌||◌, List, [], ◌∷◌, ◌++◌}
use Rattle.std.proofs.Common.{length, Option, Some, None, is_some, Result, Ok, Err, refl, sym, ap, subst, ◌∙◌, arith}
use Rattle.granit_base.specs.Place.{Mark}
use Rattle.granit_error.specs.OptionsData.{OptionsData}
use Rattle.granit_error.specs.Refused.{Refused}
use Rattle.granit_feed.specs.AtOnce.{ItemAtOnce}
use Rattle.granit_feed.specs.Eventless.{ItemTakesToGive}
use Rattle.granit_frames.specs.Refusing.{RefusesByFault}
use Rattle.granit_frames.specs.Wanting.{StepWantsToGive}
use Rattle.granit_lexemes.specs.PlainEvent.{PlainEvent}
use Rattle.granit_machine.specs.Frames.{ParserState}
use Rattle.granit_machine.specs.Leaving.{LeavesIfRoom}
use Rattle.granit_machine.specs.Lexing.{FlaggedItem}
use Rattle.granit_stepper.specs.Numbers.{UnlessNumberless}
use Rattle.granit_stepper.specs.Stepping.{Stepping, first_events}
use Rattle.granit_stepper.specs.TurnMemory.{AnswersItemPassed, AnswersItemRefused, FailsBehind, FailsFree, FrontGoes}
use Rattle.granit_stepper.specs.TurnMemory.{PassesItemFree, RefusesItemFree, TakesGoing, TurnPassesFree}
use Rattle.granit_stepper.specs.TurnMemory.{TurnRefusedFree, item_step, passed_on, without_front}
use Rattle.granit_stepper.specs.Waiting.{waiting_events}
use Rattle.granit_stepper.proofs.ItemLemmas.{left_ok}

-- ---- an item

module _ (o : OptionsData) (x : FlaggedItem × Option ℕ) (p : ParserState) (fed : Result (Unit {0}) Refused) {I : Type 0}
    (now : Stepping I) (start : Option Mark) where
  -- what the parser refuses at once is answered
  pub refused_free : (e : Refused) → RefusesItemFree o x p e
      → (ItemAtOnce x.0.item x.0.begins_key p → RefusesByFault fed (item_step o x p))
      → (r : Result (Unit {0}) Refused) → UnlessNumberless now fed start r → r ≡ Err e
  refused_free e free by_fault (Ok u) given =
      absurd (let clash = sym given.0 ∙ by_fault free.at_once e free.fails in cc)
  refused_free e free by_fault (Err f) (inl is) = sym is ∙ by_fault free.at_once e free.fails
  refused_free e free by_fault (Err f) (inr last) =
      absurd (let clash = sym last.0 ∙ by_fault free.at_once e free.fails in cc)

  module _ (after : ParserState) (free : PassesItemFree o x p after)
      (left : LeavesIfRoom fed now.parser (item_step o x p)) where
    leads_there : fed ≡ Ok tt → after ≡ now.parser
    leads_there is = let both = sym free.leads ∙ left_ok fed now.parser (item_step o x p) left is in cc

    -- what gives nothing is taken
    pub taken_there : UnlessNumberless now fed start (Ok tt) → now.parser ≡ after
    taken_there given = sym (leads_there given.0)

    wants_none : (f : Refused) → fed ≡ Err f
        → (ItemTakesToGive x.0.item x.0.begins_key p → StepWantsToGive fed p (item_step o x p)) → ⊥
    wants_none f is wants = absurd (let fine = wants free.takes after free.leads free.eventless in cc)

    pub not_refused : (ItemTakesToGive x.0.item x.0.begins_key p → StepWantsToGive fed p (item_step o x p))
        → (f : Refused) → UnlessNumberless now fed start (Err f) → ⊥
    not_refused wants f (inl is) = wants_none f is wants
    not_refused wants f (inr last) =
        let same = ap (λ (q : ParserState). q.count) (leads_there last.0) in
        omega (arith, free.number, same, last.1)

-- ---- the oldest item

-- the item that was taken is the one that goes
pub goes_there : {I : Type 0} (s now : Stepping I) (x y : FlaggedItem × Option ℕ) → FrontGoes x s.scanner
    → TakesGoing (Some y) s now → (x ≡ y) × (now ≡ record s { scanner = without_front s.scanner })
goes_there s now x y goes takes =
    let taken = takes goes.goes in
    let both = sym goes.front ∙ sym taken.0 in
    let same : x ≡ y = cc in (same, taken.1)

module _ {I : Type 0} (s now new : Stepping I) (x y : FlaggedItem × Option ℕ) (r : Result Bool Refused)
    (same : now ≡ record s { scanner = without_front s.scanner }) (front : x ≡ y) where
  pub front_refused_free : AnswersItemRefused r y now → (e : Refused)
      → RefusesItemFree s.scanner.options x s.parser e → r ≡ Err e
  front_refused_free refuses e free = refuses e
      (subst (λ (t : Stepping I). RefusesItemFree t.scanner.options y t.parser e) (sym same)
      (subst (λ (z : FlaggedItem × Option ℕ). RefusesItemFree s.scanner.options z s.parser e) front free))

  pub front_passed_free : AnswersItemPassed r y now new → (p : ParserState)
      → PassesItemFree s.scanner.options x s.parser p → (r ≡ Ok true) × (new ≡ passed_on s p)
  front_passed_free passes p free =
      let passed = passes p (subst (λ (t : Stepping I). PassesItemFree t.scanner.options y t.parser p) (sym same)
      (subst (λ (z : FlaggedItem × Option ℕ). PassesItemFree s.scanner.options z s.parser p) front free)) in
      (passed.0, passed.1 ∙ ap (λ (t : Stepping I). record t { parser = p }) same)

-- ---- turns

-- so many turns were made, behind as many as are left one is refused, and that many are they in all; no more than so
-- many events wait
pub record FailsOn {I : Type 0} (all most turns : ℕ) (now : Stepping I) (e : Refused) : Type 0 where
  pub left : ℕ
  pub sum : turns + left ≡ all
  pub few : length now.parser.given ≤ most
  pub none_ahead : now.ahead ≡ None
  pub fails : FailsBehind left now e

pub fails_first : {I : Type 0} (s : Stepping I) (e : Refused) (free : FailsFree s e)
    → FailsOn free.turns (length s.parser.given) 0 s e
fails_first s e free = record {
  left = free.turns;
  sum = omega arith;
  few = omega arith;
  none_ahead = free.none_ahead;
  fails = free.fails;
}

none_long : (es : List PlainEvent) → length es ≤ 0 → es ≡ []
none_long [] few = refl
none_long (e ∷ es) few = absurd (omega (arith, few))

-- no event waits where none did
pub given_none : (ds es : List PlainEvent) → ds ≡ [] → length es ≤ length ds → es ≡ []
given_none ds es none few = none_long es (subst (λ (xs : List PlainEvent). length es ≤ length xs) none few)

module _ {I : Type 0} (all most turns : ℕ) (now new : Stepping I) (e : Refused) (on : FailsOn all most turns now e)
    (r : Result Bool Refused) (refused : TurnRefusedFree now e → r ≡ Err e)
    (passed : (p : ParserState) → TurnPassesFree now p → (r ≡ Ok true) × (new ≡ passed_on now p)) where
  turned_in : (left : ℕ) → turns + left ≡ all → FailsBehind left now e
      → (r ≡ Err e) ⊎ ((r ≡ Ok true) × FailsOn all most (turns + 1) new e)
  turned_in zero sum fails = inl (refused fails)
  turned_in (suc n) sum fails =
      let p = fails.0 in
      let made = passed p fails.1 in
      let eventless = fails.1.passes.eventless in
      inr (
        made.0,
        subst (λ (s : Stepping I). FailsOn all most (turns + 1) s e) (sym made.1) (record {
          left = n;
          sum = omega (arith, sum);
          few = omega (arith, eventless, on.few);
          none_ahead = on.none_ahead;
          fails = fails.2;
        }),
      )

  turned_free : (r ≡ Err e) ⊎ ((r ≡ Ok true) × FailsOn all most (turns + 1) new e)
  turned_free = turned_in on.left on.sum on.fails

  -- one was made
  pub made_free : r ≡ Ok true → FailsOn all most (turns + 1) new e
  made_free made = elim turned_free [
    | inl fails ↦ absurd (let clash = sym made ∙ fails in cc)
    | inr goes ↦ goes.1
  ]

  -- one is refused
  pub fails_free : (f : Refused) → r ≡ Err f → f ≡ e
  fails_free f is = elim turned_free [
    | inl fails ↦ (let both = sym is ∙ fails in cc)
    | inr goes ↦ absurd (let clash = sym is ∙ goes.0 in cc)
  ]

  -- and none is missing
  pub not_over_free : r ≡ Ok false → ⊥
  not_over_free is = elim turned_free [
    | inl fails ↦ absurd (let clash = sym is ∙ fails in cc)
    | inr goes ↦ absurd (let clash = sym is ∙ goes.0 in cc)
  ]

-- ---- what waits

-- where no event waits, the start of the stream was told, and the parser gave none
pub none_waits_first : {I : Type 0} (s : Stepping I) → waiting_events s ≡ [] → s.first ≡ None
none_waits_first s none = by s.first refl none
  where
    by : (f : Option Mark) → s.first ≡ f → first_events f ++ s.parser.given ≡ [] → s.first ≡ None
    by None is none = is
    by (Some start) is none = absurd (cc)

pub none_waits_given : {I : Type 0} (s : Stepping I) → waiting_events s ≡ [] → s.parser.given ≡ []
none_waits_given s none = by s.first none
  where
    by : (f : Option Mark) → first_events f ++ s.parser.given ≡ [] → s.parser.given ≡ []
    by None none = none
    by (Some start) none = absurd (cc)

-- ---- a fault that is kept

pub is_over_kept : (b : Bool) (f : Option Refused) (e : Refused) → f ≡ Some e → (b || is_some f) ≡ false → ⊥
is_over_kept true f e kept going = absurd (cc)
is_over_kept false None e kept going = absurd (cc)
is_over_kept false (Some g) e kept going = absurd (cc)
