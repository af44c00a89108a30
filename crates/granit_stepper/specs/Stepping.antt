-- What contracts see of a stepper, and in which state of the machine it is known to be.
use Rattle.std.specs.Prelude.{◌≡◌, ◌<◌, ◌-◌, ◌^◌, ℕ, Bool, true, false, List, [], ◌∷◌, ◌++◌, Option, Some, None}
use Rattle.std.specs.Prelude.{Result, Ok, Err}
use Rattle.granit_base.specs.Place.{Mark, Unread}
use Rattle.granit_error.specs.OptionsData.{OptionsData}
use Rattle.granit_error.specs.Refused.{Refused}
pub use Rattle.granit_error.specs.Refused.{refused_kind}
use Rattle.granit_lexemes.specs.Outcome.{◌>>=◌}
use Rattle.granit_lexemes.specs.PlainEvent.{PlainEvent, event_on, StreamStart}
use Rattle.granit_machine.specs.Frames.{ParserState}
use Rattle.granit_machine.specs.Lexing.{FlaggedItem}
use Rattle.granit_machine.specs.Parser.{feed}
use Rattle.granit_scanner.specs.Scans as scans
use Rattle.granit_scanner.specs.Scans.{Scanning, Known, line_asked, may_front_go}
use Rattle.granit_refusals.specs.declared.refusal.Refusal.{Refusal}
use Rattle.granit_steps.specs.Steps.{StepState, Turn, line_behind, may_go, with_fed}

-- a scanner, the parser's state, where the stream starts if that isn't told yet, whether a call failed, whether the
-- number of a next anchor was ever set, the refusal of a turn that was made ahead, and where the last one was refused
pub record Stepping (I : Type 0) : Type 0 where
  pub scanner : Scanning I
  pub parser : ParserState
  pub first : Option Mark
  pub failed : Bool
  pub renumbered : Bool
  pub ahead : Option Refused
  pub refusal : Option Refusal

-- the same, with handles that stay over documents or not
abbrev pub keeping : {I : Type 0} → Bool → Stepping I → Stepping I
keeping keep s = record s { scanner = scans.scanner_keeping keep s.scanner }

-- ---- in which state of the machine

abbrev pub first_events : Option Mark → List PlainEvent
first_events None = []
first_events (Some m) = event_on StreamStart m ∷ []

-- a stepper is known to be in a state of the machine: no call failed and no turn that was made ahead, what wasn't given
-- yet waits in the parser, and no anchor got the greatest number
pub record StandsIn {I : Type 0} (unread : I → Unread → Type 0) (s : Stepping I) (m : StepState) : Type 0 where
  pub going : s.failed ≡ false
  pub reading : Known unread s.scanner m.reading m.queue
  pub parser : m.parser ≡ record (s.parser) { given = [] }
  pub pending : m.pending ≡ first_events s.first ++ s.parser.given
  pub numbers : s.parser.count < 2 ^ 64 - 1
  pub none_ahead : s.ahead ≡ None

-- what no turn changes
pub record Keeps {I : Type 0} (old new : Stepping I) : Type 0 where
  pub first : new.first ≡ old.first
  pub failed : new.failed ≡ old.failed
  pub renumbered : new.renumbered ≡ old.renumbered
  pub options : new.scanner.options ≡ old.scanner.options

-- ---- what is given

-- an event, why there is none, or nothing more, as it stands in a place for the next one: the answer of a step
abbrev pub answer_in : {X : Type 0} → Option (Result X Refused) → Result (Option X) Refused
answer_in None = Ok None
answer_in (Some (Ok x)) = Ok (Some x)
answer_in (Some (Err e)) = Err e

-- ---- turns

-- a turn was made, or none is left to make
abbrev pub turn_view : Bool → Option (List PlainEvent)
turn_view true = Some []
turn_view false = None

-- turns give no events: these wait in the state
abbrev pub no_events : {X : Type 0} → X → List PlainEvent
no_events x = []

-- The oldest item, where it may go, with the line of what stands behind it, where it asks for that: a stepper is then
-- in the state with the items behind it.
abbrev pub TakesFree : {I : Type 0} → (I → Unread → Type 0) → Option (FlaggedItem × Option ℕ) → Stepping I → StepState
    → Type 0
TakesFree unread None s m = (may_front_go m.reading m.queue ≡ false) × StandsIn unread s m
TakesFree unread (Some x) s m =
    (is : List FlaggedItem) × (m.queue ≡ x.0 ∷ is) × (may_go m.reading x.0 is ≡ true)
    × (x.1 ≡ line_asked x.0.item (line_behind m.reading is)) × StandsIn unread s (record m { queue = is })

-- what the machine does with an item that was taken
abbrev pub feed_item : OptionsData → FlaggedItem × Option ℕ → StepState → Turn
feed_item o x m = feed o x.0 x.1 m.parser >>= λ y. Ok (Some [], with_fed m m.queue y)
