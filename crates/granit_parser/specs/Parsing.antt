-- What contracts see of a parser, and what its calls give.
pub use Rattle.granit_sourced.specs.Sources.{IfUnseen, TellsSource, UnlessSource}
use Rattle.std.specs.Prelude.{◌≡◌, ◌⊎◌, ℕ, Bool, true, false, List, [], ◌∷◌, ◌++◌, Option, Some, None, Ok, Err, ◌<◌}
use Rattle.std.specs.Prelude.{IfSome}
use Rattle.granit_base.specs.Counts.{last_count}
use Rattle.granit_base.specs.Place.{Unread}
pub use Rattle.granit_declared.specs.DeclaredCause.{DeclaredCause}
pub use Rattle.granit_declared.specs.DeclaredReading.{DeclaredReading}
use Rattle.granit_cursor.specs.Reading.{GoesOnward}
use Rattle.granit_error.specs.FaultKind.{NoMemory, wants_memory}
use Rattle.granit_error.specs.OptionsData.{OptionsData}
use Rattle.granit_error.specs.Refused.{Refused}
use Rattle.granit_event.specs.Events.{plain_event}
use Rattle.granit_input.specs.Origin.{Origin}
pub use Rattle.granit_layers.specs.Turning.{Next}
use Rattle.granit_lexemes.specs.PlainEvent.{PlainEvent}
use Rattle.granit_receivers.specs.Kept.{IsKept}
pub use Rattle.granit_sourced.specs.Gathering.{LeadsTo, first_given, none_given}
use Rattle.granit_sourced.specs.Giving.{GivesNext}
pub use Rattle.granit_sourced.specs.Giving.{EndsWith}
use Rattle.granit_sourced.specs.Sources.{MovesUnless, TellsError}
use Rattle.granit_sourced.specs.Waiting.{GivesAtOnce}
pub use Rattle.granit_stepper.specs.Numbers.{RefusesNumber}
use Rattle.granit_stepper.specs.Stepping as stepping
pub use Rattle.granit_stepper.specs.Stepping.{StandsIn, Stepping}
use Rattle.granit_steps.specs.Levels.{IsStream, BeginsStream}
use Rattle.granit_steps.specs.Steps.{StepState}
use Rattle.granit_steps.specs.Told.{EventsTold}

-- a stepper, what was looked at and not taken, the refusal that was given, whether a call gave it for want of memory,
-- whether the end of a document was the last that was given, comments aside, whether that of the stream was, and
-- whether recovery told that a document is there and nothing was given since
pub record Parsing (I : Type 0) : Type 0 where
  pub stepper : Stepping I
  pub peeked : Next
  pub given : Option Refused
  pub starved : Bool
  pub between : Bool
  pub over : Bool
  pub answered : Bool

-- nothing is read behind a refusal that was looked at, and nothing comes behind one that was given
pub record EndsBehind {I : Type 0} (r : Next) (given : Option Refused) (s : Stepping I) : Type 0 where
  pub seen : EndsWith r s
  pub over : IfSome given (λ e. (r ≡ None) × (s.failed ≡ true))

-- a refusal that is given is kept, and nothing else changes what is kept
abbrev pub KeepsGiven : Next → (old new : Option Refused) → Type 0
KeepsGiven None old new = new ≡ old
KeepsGiven (Some (Ok e)) old new = new ≡ old
KeepsGiven (Some (Err e)) old new = (kept : Refused) × (new ≡ Some kept) × IsKept e kept

-- where nothing was refused, no call gave want of memory
abbrev pub StarvedBy : (starved : Bool) → (given : Option Refused) → Type 0
StarvedBy starved None = starved ≡ false
StarvedBy starved (Some e) = Unit {0}

-- a refusal that is given tells whether it is want of memory, and nothing else changes that
abbrev pub Starves : Next → (old new : Bool) → Type 0
Starves None old new = new ≡ old
Starves (Some (Ok e)) old new = new ≡ old
Starves (Some (Err e)) old new = new ≡ wants_memory e.kind

-- behind an event that is given recovery's last answer counts no more
abbrev pub notes_answered : Next → Bool → Bool
notes_answered None answered = answered
notes_answered (Some (Ok x)) answered = false
notes_answered (Some (Err e)) answered = answered

-- the same parser, with handles that stay over documents or not
abbrev pub parser_keeping : {I : Type 0} → Bool → Parsing I → Parsing I
parser_keeping keep p = record p { stepper = stepping.keeping keep p.stepper }

-- a state of the machine in which a stepper is known to be, or out of which what was looked at led it
abbrev pub StandsBefore : {I : Type 0} → (I → Unread → Type 0) → Next → Stepping I → StepState → Type 0
StandsBefore unread None s m = StandsIn unread s m
StandsBefore unread (Some r) s m = GivesNext (Some r) (StandsIn unread s) s.renumbered s.scanner.options m

-- a parser is known to be in a state of the machine
abbrev pub StandsAt : {I : Type 0} → (I → Unread → Type 0) → Parsing I → StepState → Type 0
StandsAt unread p m = StandsBefore unread p.peeked p.stepper m

-- a look shows what the machine's step gives: a parser is then known to stand before it, or behind the end
abbrev pub ShowsNext : {I : Type 0} → (I → Unread → Type 0) → Next → Parsing I → OptionsData → StepState → Type 0
ShowsNext unread None p o m = GivesNext None (StandsAt unread p) p.stepper.renumbered o m
ShowsNext unread (Some r) p o m = StandsAt unread p m

-- a parser gives nothing more
pub record IsOver {I : Type 0} (p : Parsing I) : Type 0 where
  pub none : p.peeked ≡ None
  pub failed : p.stepper.failed ≡ true

-- what a look at the next event shows and leaves
pub record ParserPeeksAs {I : Type 0} (unread : I → Unread → Type 0) (left : I → ℕ)
    (origin : I → Origin) (old : Parsing I)
    (r : Next) (new : Parsing I) : Type 0 where
  pub shown : r ≡ new.peeked
  pub known : (m : StepState) → StandsAt unread old m
      → (origin new.stepper.scanner.cursor.input).error ≡ None
      → ShowsNext unread r new old.stepper.scanner.options m
  pub source : IfUnseen old.peeked (TellsError origin old.stepper r new.stepper.scanner.cursor)
  pub at_once : IfUnseen old.peeked (GivesAtOnce origin old.stepper r new.stepper)
  pub seen : IfSome old.peeked (λ x. new ≡ old)
  pub given : new.given ≡ old.given
  pub answered : new.answered ≡ old.answered
  pub refused : EndsWith r new.stepper
  pub over : IsOver old → new ≡ old
  pub options : new.stepper.scanner.options ≡ old.stepper.scanner.options
  pub renumbered : new.stepper.renumbered ≡ old.stepper.renumbered
  pub moves : IfUnseen old.peeked (MovesUnless left origin r old.stepper.scanner.cursor new.stepper.scanner.cursor)
  pub onward : GoesOnward unread old.stepper.scanner.cursor new.stepper.scanner.cursor

-- a step gives what the machine's step gives, what was looked at, and behind a refusal nothing
pub record ParserStepsTo {I : Type 0} (unread : I → Unread → Type 0) (left : I → ℕ)
    (origin : I → Origin) (p : Parsing I)
    (r : Next) (q : Parsing I) : Type 0 where
  pub known : (m : StepState) → StandsAt unread p m
      → GivesNext r (StandsAt unread q) q.stepper.renumbered p.stepper.scanner.options m
      ⊎ TellsSource origin r q.stepper.scanner.cursor
  pub source : IfUnseen p.peeked (TellsError origin p.stepper r q.stepper.scanner.cursor)
  pub at_once : IfUnseen p.peeked (GivesAtOnce origin p.stepper r q.stepper)
  pub seen : IfSome p.peeked (λ x. (r ≡ Some x) × (q.stepper ≡ p.stepper))
  pub none : q.peeked ≡ None
  pub given : KeepsGiven r p.given q.given
  pub answered : q.answered ≡ notes_answered r p.answered
  pub refused : EndsWith r q.stepper
  pub over : IsOver p → (r ≡ None) × (q ≡ p)
  pub options : q.stepper.scanner.options ≡ p.stepper.scanner.options
  pub renumbered : q.stepper.renumbered ≡ p.stepper.renumbered
  pub moves : IfUnseen p.peeked (MovesUnless left origin r p.stepper.scanner.cursor q.stepper.scanner.cursor)
  pub onward : GoesOnward unread p.stepper.scanner.cursor q.stepper.scanner.cursor

-- behind these events fewer anchors are counted than the greatest number of 64 bits
abbrev pub LeavesNumbers : OptionsData → StepState → List PlainEvent → Type 0
LeavesNumbers o m es = (n : StepState) × LeadsTo o m es n × (n.parser.count < last_count)

-- Behind these events of a text, in that state: where there is nothing more, they are the events of its reading, a
-- whole stream; an event goes on with what begins a stream; and a refusal, behind such events, is for want of memory,
-- or a cause of the text that names no source, or says that no number is left for an anchor.
abbrev pub EndsText : OptionsData → List ℕ → List PlainEvent → (renumbered : Bool) → StepState → Next → Type 0
EndsText o x es renumbered m None = DeclaredReading o x es × IsStream es
EndsText o x es renumbered m (Some (Ok e)) = BeginsStream (es ++ plain_event e ∷ [])
EndsText o x es renumbered m (Some (Err e)) =
    BeginsStream es
    × ((e.kind ≡ NoMemory) ⊎ ((DeclaredCause o x e × (e.sources ≡ [])) ⊎ RefusesNumber renumbered o m e))

-- Behind these events of all that is told from a beginning, in that state: where there is nothing more, they are all;
-- an event is the next one, so that with each one fewer is left; and a refusal is what ends them, unless memory ran
-- out, or says that no number is left for an anchor.
abbrev pub EndsTold : EventsTold → OptionsData → List PlainEvent → (renumbered : Bool) → StepState → Next → Type 0
EndsTold all o es renumbered m None = all ≡ (es, None)
EndsTold all o es renumbered m (Some (Ok e)) = (more : List PlainEvent) × (all.0 ≡ es ++ plain_event e ∷ more)
EndsTold all o es renumbered m (Some (Err e)) =
    ((e.kind ≡ NoMemory → ⊥) → all ≡ (es, Some e)) ⊎ RefusesNumber renumbered o m e
