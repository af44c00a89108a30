-- Where turns want no memory: what is taken gives nothing and isn't kept, or is refused at once, or a read had failed.
use Rattle.std.specs.Prelude.{◌≡◌, ◌<◌, ◌≤◌, ◌-◌, ◌^◌, ℕ, zero, suc, Bool, true, [], drop, length, Option, Some, None}
use Rattle.std.specs.Prelude.{Result, Ok, Err, slice_get}
use Rattle.std.specs.Option.{option_map}
use Rattle.granit_error.specs.OptionsData.{OptionsData}
use Rattle.granit_error.specs.Refused.{Refused}
use Rattle.granit_feed.specs.AtOnce.{ItemAtOnce}
use Rattle.granit_feed.specs.Eventless.{ItemTakesToGive}
use Rattle.granit_machine.specs.Frames.{ParserState}
use Rattle.granit_machine.specs.Lexing.{FlaggedItem}
use Rattle.granit_machine.specs.NodeSteps.{Stepped}
use Rattle.granit_machine.specs.Parser.{take_item}
use Rattle.granit_refusals.specs.BeforeTurn.{mark_of_item}
use Rattle.granit_scanner.specs.Scans.{Scanning, front_goes, is_done, line_asked, line_next}
use Rattle.granit_stepper.specs.Stepping.{Stepping}

-- ---- an item with the line of what stands behind it, where it asks for that

abbrev pub item_step : OptionsData → FlaggedItem × Option ℕ → ParserState → Stepped
item_step o x p = take_item o x.0.item x.0.begins_key x.1 p

-- it is no mark, of which a copy is kept, and the parser refuses it before it takes memory
pub record RefusesItemFree (o : OptionsData) (x : FlaggedItem × Option ℕ) (p : ParserState) (e : Refused) : Type 0 where
  pub unmarked : mark_of_item x.0.item ≡ None
  pub at_once : ItemAtOnce x.0.item x.0.begins_key p
  pub fails : item_step o x p ≡ Err e

-- It is no mark, and the parser takes memory for its events alone, of which it gives none: that is its state then. No
-- anchor gets the greatest number.
pub record PassesItemFree (o : OptionsData) (x : FlaggedItem × Option ℕ) (p after : ParserState) : Type 0 where
  pub unmarked : mark_of_item x.0.item ≡ None
  pub takes : ItemTakesToGive x.0.item x.0.begins_key p
  pub leads : item_step o x p ≡ Ok after
  pub eventless : length after.given ≤ length p.given
  pub number : after.count < 2 ^ 64 - 1

-- what is answered where a stepper's parser has such an item
abbrev pub AnswersItemRefused : {I : Type 0} → Result Bool Refused → FlaggedItem × Option ℕ → Stepping I → Type 0
AnswersItemRefused result x s = (e : Refused) → RefusesItemFree s.scanner.options x s.parser e → result ≡ Err e

abbrev pub AnswersItemPassed : {I : Type 0} → Result Bool Refused → FlaggedItem × Option ℕ → (old new : Stepping I)
    → Type 0
AnswersItemPassed result x old new =
    (p : ParserState) → PassesItemFree old.scanner.options x old.parser p
    → (result ≡ Ok true) × (new ≡ record old { parser = p })

-- ---- the oldest item that waits

abbrev pub front_asked : {I : Type 0} → Scanning I → Option (FlaggedItem × Option ℕ)
front_asked s = option_map (λ i. (i, line_asked i.item (line_next (is_done s) s.laid s.queue))) (slice_get s.queue 0)

abbrev pub without_front : {I : Type 0} → Scanning I → Scanning I
without_front s = record s { queue = drop 1 s.queue }

-- it may go
pub record FrontGoes {I : Type 0} (x : FlaggedItem × Option ℕ) (s : Scanning I) : Type 0 where
  pub goes : front_goes (is_done s) s.laid s.queue ≡ true
  pub front : front_asked s ≡ Some x

-- it is taken where it may go
abbrev pub TakesGoing : {I : Type 0} → Option (FlaggedItem × Option ℕ) → (old new : Stepping I) → Type 0
TakesGoing given old new =
    front_goes (is_done old.scanner) old.scanner.laid old.scanner.queue ≡ true
    → (given ≡ front_asked old.scanner) × (new ≡ record old { scanner = without_front old.scanner })

-- ---- a turn

-- the parser refuses the oldest item so, or a read failed, behind which no item waits
pub data TurnRefusedFree {I : Type 0} (s : Stepping I) (e : Refused) : Type 0 where
  front_refused : {x : FlaggedItem × Option ℕ} → FrontGoes x s.scanner
      → RefusesItemFree s.scanner.options x s.parser e → TurnRefusedFree s e
  read_failed : s.scanner.queue ≡ [] → s.scanner.fault ≡ Some e → TurnRefusedFree s e

-- the parser takes the oldest item so
pub record TurnPassesFree {I : Type 0} (s : Stepping I) (after : ParserState) : Type 0 where
  pub item : FlaggedItem × Option ℕ
  pub goes : FrontGoes item s.scanner
  pub passes : PassesItemFree s.scanner.options item s.parser after

abbrev pub passed_on : {I : Type 0} → Stepping I → ParserState → Stepping I
passed_on s p = record s { scanner = without_front s.scanner; parser = p }

-- what is answered then, where no turn was made ahead
abbrev pub AnswersRefused : {I : Type 0} → Result Bool Refused → Stepping I → Type 0
AnswersRefused result s = s.ahead ≡ None → (e : Refused) → TurnRefusedFree s e → result ≡ Err e

abbrev pub AnswersPassed : {I : Type 0} → Result Bool Refused → (old new : Stepping I) → Type 0
AnswersPassed result old new =
    old.ahead ≡ None → (p : ParserState) → TurnPassesFree old p → (result ≡ Ok true) × (new ≡ passed_on old p)

-- ---- turns

-- behind so many of which each passes an item one is refused
abbrev pub FailsBehind : {I : Type 0} → ℕ → Stepping I → Refused → Type 0
FailsBehind zero s e = TurnRefusedFree s e
FailsBehind (suc n) s e = (p : ParserState) × TurnPassesFree s p × FailsBehind n (passed_on s p) e

-- the turns that come are those, and none was made ahead
pub record FailsFree {I : Type 0} (s : Stepping I) (e : Refused) : Type 0 where
  pub none_ahead : s.ahead ≡ None
  pub turns : ℕ
  pub few : turns < 2 ^ 64 - 1
  pub fails : FailsBehind turns s e

-- that fault is answered, and no memory is wanted
abbrev pub AnswersFree : {I X : Type 0} → Result X Refused → Stepping I → Type 0
AnswersFree result s = (e : Refused) → FailsFree s e → result ≡ Err e
