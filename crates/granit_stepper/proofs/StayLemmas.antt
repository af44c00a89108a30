-- Where an event waits, or nothing is left to take, nothing is read and nothing changes.
use Rattle.std.proofs.Common.{◌≡◌, ℕ, ◌+◌, Bool, true, false, List, [], ◌∷◌, ◌++◌, drop, Option, Some, None}
use Rattle.std.proofs.Common.{Result, Ok, Err, refl, sym, ap, subst, ◌∙◌}
use Rattle.std.specs.List.{slice_get}
use Rattle.std.specs.Option.{option_map}
use Rattle.granit_base.specs.Place.{Mark}
use Rattle.granit_base.specs.declared.place.Span.{Span}
use Rattle.granit_error.specs.Refused.{Refused}
use Rattle.granit_event.specs.Events.{plain_event}
use Rattle.granit_event.specs.declared.event.Event.{Event}
use Rattle.granit_lexemes.specs.PlainEvent.{PlainEvent, StreamStart, event_on}
use Rattle.granit_machine.specs.Frames.{ParserState}
use Rattle.granit_stepper.specs.Stepping.{Stepping, first_events}
use Rattle.granit_stepper.specs.Waiting.{AllTaken, GivesOldestOf, GivesFirstWaiting, StaysAtEnd, StaysBy, StaysTaken}
use Rattle.granit_stepper.specs.Waiting.{StaysWaiting}

-- an event of the parser waits, or nothing is left to take
pub data Rests {I : Type 0} (s : Stepping I) : Type 0 where
  rests_waiting : {e : PlainEvent} {es : List PlainEvent} → s.parser.given ≡ e ∷ es → Rests s
  rests_taken : AllTaken s → Rests s

module _ {I X : Type 0} (x : X) (r : Result X Refused) (s new : Stepping I) where
  stays_in : (es : List PlainEvent) → s.parser.given ≡ es → (Rests s → (r ≡ Ok x) × (new ≡ s)) → StaysBy x es r s new
  stays_in [] is stays = tt
  stays_in (e ∷ es) is stays = stays (rests_waiting is)

  pub stays_waiting : (Rests s → (r ≡ Ok x) × (new ≡ s)) → StaysWaiting x r s new
  stays_waiting stays = stays_in s.parser.given refl stays

  pub stays_resting : StaysWaiting x r s new → StaysTaken x r s new → Rests s → (r ≡ Ok x) × (new ≡ s)
  stays_resting waiting ended (rests_waiting {e = e} {es = es} is) =
      subst (λ (es : List PlainEvent). StaysBy x es r s new) is waiting
  stays_resting waiting ended (rests_taken at) = ended at

  pub none_stays : s.parser.given ≡ [] → StaysWaiting x r s new
  none_stays none = subst (λ (es : List PlainEvent). StaysBy x es r s new) (sym none) tt

-- ---- turns

-- where this holds no turn was made
pub record TurnsNone {I : Type 0} (Stays : Type 0) (turns : ℕ) (initial now : Stepping I) : Type 0 where
  pub none : Stays → turns ≡ 0
  pub same : Stays → now ≡ initial

pub turns_none : {I : Type 0} (Stays : Type 0) (s : Stepping I) → TurnsNone Stays 0 s s
turns_none Stays s = record { none = λ at. refl; same = λ at. refl }

module _ {I : Type 0} (Stays : Type 0) (turns : ℕ) (initial now new : Stepping I)
    (none : TurnsNone Stays turns initial now) (r : Result Bool Refused)
    (stays : Stays → now ≡ initial → (r ≡ Ok false) × (new ≡ now)) where
  none_made : Stays → (r ≡ Ok false) × (new ≡ initial)
  none_made at = let same = none.same at in let stayed = stays at same in (stayed.0, stayed.1 ∙ same)

  more_made : r ≡ Ok true → TurnsNone Stays (turns + 1) initial new
  more_made made = record {
    none = λ at. absurd (let clash = sym made ∙ (none_made at).0 in cc);
    same = λ at. (none_made at).1;
  }

module _ {I : Type 0} (turns : ℕ) (initial now new : Stepping I) (none : TurnsNone (Rests initial) turns initial now)
    (r : Result Bool Refused) (waiting : StaysWaiting false r now new) (ended : StaysTaken false r now new) where
  rests_on : Rests initial → now ≡ initial → (r ≡ Ok false) × (new ≡ now)
  rests_on rests same =
      stays_resting false r now new waiting ended (subst (λ (s : Stepping I). Rests s) (sym same) rests)

  -- none is made then
  pub turned_none : Rests initial → (r ≡ Ok false) × (new ≡ initial)
  turned_none = none_made (Rests initial) turns initial now new none r rests_on

  pub turned_on : r ≡ Ok true → TurnsNone (Rests initial) (turns + 1) initial new
  turned_on = more_made (Rests initial) turns initial now new none r rests_on

-- the same of turns behind the events that wait
module _ {I : Type 0} (turns : ℕ) (initial now new : Stepping I)
    (none : TurnsNone (AllTaken initial) turns initial now) (r : Result Bool Refused)
    (ended : StaysTaken false r now new) where
  taken_on : AllTaken initial → now ≡ initial → (r ≡ Ok false) × (new ≡ now)
  taken_on at same = ended (subst (λ (s : Stepping I). AllTaken s) (sym same) at)

  pub took_none : AllTaken initial → (r ≡ Ok false) × (new ≡ initial)
  took_none = none_made (AllTaken initial) turns initial now new none r taken_on

  pub took_on : r ≡ Ok true → TurnsNone (AllTaken initial) (turns + 1) initial new
  took_on = more_made (AllTaken initial) turns initial now new none r taken_on

-- ---- what is given

module _ {I : Type 0} (s mid : Stepping I) (r : Option (Event × Span)) (p : ParserState)
    (first : option_map plain_event r ≡ slice_get mid.parser.given 0)
    (rest : p ≡ record (mid.parser) { given = drop 1 mid.parser.given }) where
  pops_in : (u : Unit {0}) (es : List PlainEvent) → s.parser.given ≡ es → StaysBy tt es (Ok u) s mid → s.first ≡ None
      → GivesOldestOf (option_map plain_event) es (Ok r) s (record mid { parser = p })
  pops_in u [] is stays told = tt
  pops_in u (e ∷ es) is stays told =
      let waits : mid.parser.given ≡ e ∷ es = ap (λ (t : Stepping I). t.parser.given) stays.1 ∙ is in
      let parser : p ≡ record (s.parser) { given = es } =
      rest ∙ ap (λ (xs : List PlainEvent). record (mid.parser) { given = drop 1 xs }) waits
      ∙ ap (λ (t : Stepping I). record (t.parser) { given = es }) stays.1 in (
        first ∙ ap (λ (xs : List PlainEvent). slice_get xs 0) waits,
        ap (λ (t : Stepping I). record t { parser = p }) stays.1
            ∙ ap (λ (q : ParserState). record s { parser = q }) parser
            ∙ ap (λ (f : Option Mark). record s { parser = record (s.parser) { given = es }; first = f }) told,
      )

  -- the first of what waits
  pub pops_waiting : (u : Unit {0}) → StaysWaiting tt (Ok u) s mid → s.first ≡ None
      → GivesFirstWaiting (option_map plain_event) (Ok r) s (record mid { parser = p })
  pops_waiting u stays told = subst
      (λ (f : Option Mark). GivesOldestOf (option_map plain_event) (first_events f ++ s.parser.given) (Ok r) s
      (record mid { parser = p })) (sym told) (pops_in u s.parser.given refl stays told)

  none_in : (r : Option (Event × Span)) → option_map plain_event r ≡ None → r ≡ None
  none_in None is = refl
  none_in (Some x) is = absurd (let clash = is in cc)

  -- none is left
  pub pops_none : (u : Unit {0}) → StaysTaken tt (Ok u) s mid
      → StaysAtEnd None (Ok r) s (record mid { parser = p })
  pops_none u ended = λ at.
      let same = (ended at.over).1 in
      let none : mid.parser.given ≡ [] = ap (λ (t : Stepping I). t.parser.given) same ∙ at.given in
      let parser : p ≡ s.parser =
      rest ∙ ap (λ (xs : List PlainEvent). record (mid.parser) { given = drop 1 xs }) none
      ∙ ap (λ (xs : List PlainEvent). record (mid.parser) { given = xs }) (sym none)
      ∙ ap (λ (t : Stepping I). t.parser) same in (
        ap Ok (none_in r (first ∙ ap (λ (xs : List PlainEvent). slice_get xs 0) none)),
        ap (λ (t : Stepping I). record t { parser = p }) same
            ∙ ap (λ (q : ParserState). record s { parser = q }) parser,
      )

module _ {I : Type 0} (s mid : Stepping I) (e : Refused) where
  refuses_in : {X : Type 0} (view : X → Option PlainEvent) (es : List PlainEvent) (r : Result X Refused)
      (new : Stepping I) → StaysBy {X = Unit {0}} tt es (Err e) s mid → GivesOldestOf view es r s new
  refuses_in view [] r new stays = tt
  refuses_in view (x ∷ es) r new stays = absurd (let clash = stays.0 in cc)

  -- where an event waits nothing is refused
  pub refuses_none : {X : Type 0} (view : X → Option PlainEvent) (r : Result X Refused) (new : Stepping I)
      → StaysWaiting {X = Unit {0}} tt (Err e) s mid → s.first ≡ None → GivesFirstWaiting view r s new
  refuses_none view r new stays told = subst
      (λ (f : Option Mark). GivesOldestOf view (first_events f ++ s.parser.given) r s new) (sym told)
      (refuses_in view s.parser.given r new stays)

-- the start of the stream is the first
pub start_first : {I : Type 0} (s : Stepping I) (start : Mark) (x : Event × Span) → s.first ≡ Some start
    → plain_event x ≡ event_on StreamStart start
    → GivesFirstWaiting (option_map plain_event) (Ok (Some x)) s (record s { first = None })
start_first s start x is told = subst
    (λ (f : Option Mark). GivesOldestOf (option_map plain_event) (first_events f ++ s.parser.given) (Ok (Some x)) s
    (record s { first = None })) (sym is) (ap Some told, refl)
