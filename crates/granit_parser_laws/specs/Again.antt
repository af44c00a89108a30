-- Calls of `proceed_next_document` that tell of a document one behind another, and what is given between them, by what
-- the clauses of these calls say.
use Rattle.std.specs.Prelude.{◌≡◌, ◌⊎◌, ◌<◌, ℕ, suc, Bool, true, false, Some, None, Result, Ok, IfOk, IfSome}
use Rattle.granit_base.specs.Place.{Unread}
use Rattle.granit_parser.specs.Recovering.{TellsOnce, state_left}
use Rattle.granit_error.specs.OptionsData.{OptionsData}
use Rattle.granit_error.specs.Refused.{Refused}
use Rattle.granit_input.specs.Origin.{Origin}
use Rattle.granit_parser.specs.Parsing.{IsOver, KeepsGiven, Next, Parsing, notes_answered}
use Rattle.granit_parser.specs.Recovering.{ForCalls, GivesCall, GivesSeen, IsClosed, IsNoted, IsOpen, LooksNoMore}
use Rattle.granit_parser.specs.Recovering.{MeetsNumber, ParserIn, PeeksIn, Proceeds, ProceedsNext}
use Rattle.granit_recovery.specs.Streams.{ReachedByCalls}
use Rattle.granit_restart.specs.Calls.{Calls, next_call}
use Rattle.granit_restart.specs.Recovery as recovery
use Rattle.granit_receivers.specs.Kept.{GivesAgain}
use Rattle.granit_parser.specs.Parsing.{EndsWith}
use Rattle.granit_parser.specs.Parsing.{IfUnseen, TellsSource, UnlessSource}
use Rattle.granit_parser.specs.Recovering.{NeverRecovers}

-- ---- what clauses say

-- clauses of `proceed_next_document`, with what it answered
pub record ProceedsTo {I : Type 0} (unread : I → Unread → Type 0) (origin : I → Origin) (old : Parsing I)
    (r : Result Bool Refused) (new : Parsing I) : Type 0 where
  pub known : ForCalls unread old (λ c. LooksNoMore old c
      → UnlessSource origin r new.stepper (Proceeds unread r old new c))
  pub next : ForCalls unread old (λ c. old.answered ≡ true → IsOpen c
      → UnlessSource origin r new.stepper (ProceedsNext unread r old new c))
  pub answered : IfOk r (λ follows. IsNoted follows new)
  pub again : old.over ≡ false → old.stepper.failed ≡ true → old.stepper.refusal ≡ None
      → IfSome old.given (λ e. GivesAgain e r)
  pub seen : old.over ≡ false → old.stepper.failed ≡ true → old.stepper.refusal ≡ None → old.given ≡ None
      → GivesSeen old.peeked r
  pub over : old.over ≡ true → (r ≡ Ok false) × (new ≡ old)
  pub options : new.stepper.scanner.options ≡ old.stepper.scanner.options
  pub renumbered : new.stepper.renumbered ≡ old.stepper.renumbered

-- clauses of `next_event`, with what it gave
pub record TakesEvent {I : Type 0} (unread : I → Unread → Type 0) (origin : I → Origin) (old : Parsing I) (r : Next)
    (new : Parsing I) : Type 0 where
  pub calls : (c : Calls) → ReachedByCalls old.stepper.scanner.options c → IsOpen c → ParserIn unread old c
      → GivesCall unread r new c ⊎ TellsSource origin r new.stepper.scanner.cursor
  pub closed : (c : Calls) → IsClosed c → ParserIn unread old c → ParserIn unread new c
  pub answered : new.answered ≡ notes_answered r old.answered
  pub options : new.stepper.scanner.options ≡ old.stepper.scanner.options
  pub renumbered : new.stepper.renumbered ≡ old.stepper.renumbered
  pub peeked : new.peeked ≡ None
  pub given : KeepsGiven r old.given new.given
  pub seen : IfSome old.peeked (λ x. (r ≡ Some x) × (new.stepper ≡ old.stepper))
  pub refused : EndsWith r new.stepper
  pub over : IsOver old → (r ≡ None) × (new ≡ old)
  pub lost : IfUnseen old.peeked (NeverRecovers origin old.stepper r new.stepper)

-- clauses of `peek`, with what it showed
pub record SeesEvent {I : Type 0} (unread : I → Unread → Type 0) (origin : I → Origin) (old : Parsing I) (r : Next)
    (new : Parsing I) : Type 0 where
  pub calls : PeeksIn unread origin old r new
  pub answered : new.answered ≡ old.answered
  pub options : new.stepper.scanner.options ≡ old.stepper.scanner.options
  pub renumbered : new.stepper.renumbered ≡ old.stepper.renumbered
  pub shown : r ≡ new.peeked
  pub seen : IfSome old.peeked (λ x. new ≡ old)
  pub refused : EndsWith r new.stepper
  pub over : IsOver old → new ≡ old

-- ---- calls one behind another

-- any number of calls of `next_event` and `peek`, none of which gives the error of the source
pub data EventsTaken {I : Type 0} (unread : I → Unread → Type 0) (origin : I → Origin) (old : Parsing I)
    : Parsing I → Type 0 where
  no_event_taken : EventsTaken unread origin old old
  one_taken : {mid new : Parsing I} → (r : Next) → EventsTaken unread origin old mid
      → TakesEvent unread origin mid r new → (TellsSource origin r new.stepper.scanner.cursor → ⊥)
      → EventsTaken unread origin old new
  one_seen : {mid new : Parsing I} → (r : Next) → EventsTaken unread origin old mid
      → SeesEvent unread origin mid r new → (origin new.stepper.scanner.cursor.input).error ≡ None
      → EventsTaken unread origin old new

-- behind such calls, or none, `proceed_next_document` tells of a document
pub record ProceedsBehind {I : Type 0} (unread : I → Unread → Type 0) (origin : I → Origin) (old new : Parsing I)
    : Type 0 where
  pub parser : Parsing I
  pub taken : EventsTaken unread origin old parser
  pub tells : ProceedsTo unread origin parser (Ok true) new

-- so many times one behind another
pub data ProceedingChain {I : Type 0} (unread : I → Unread → Type 0) (origin : I → Origin) : ℕ → (old new : Parsing I)
    → Type 0 where
  no_proceeding : {p : Parsing I} → ProceedingChain unread origin 0 p p
  one_proceeding : {n : ℕ} {old mid new : Parsing I} → ProceedsBehind unread origin old mid
      → ProceedingChain unread origin n mid new → ProceedingChain unread origin (suc n) old new

-- ---- where they lead

-- a parser is where calls led, recovery told of a document there, and nothing was given since
pub record ToldIn {I : Type 0} (unread : I → Unread → Type 0) (p : Parsing I) (c : Calls) : Type 0 where
  pub reached : ReachedByCalls p.stepper.scanner.options c
  pub stands : ParserIn unread p c
  pub resumes : c ≡ recovery.resumed c.steps
  pub answered : p.answered ≡ true

-- the machine's recovery tells of a document again, and less is left there
pub record TellsAgain {I : Type 0} (unread : I → Unread → Type 0) (p : Parsing I) (c : Calls) : Type 0 where
  pub calls : Calls
  pub told : ToldIn unread p calls
  pub once : TellsOnce p.stepper.scanner.options c calls
  pub less : state_left calls.steps < state_left c.steps

-- any number of the machine's calls lead there
pub data CallsOn (o : OptionsData) (c : Calls) : Calls → Type 0 where
  none_called : CallsOn o c c
  call_on : {d : Calls} → CallsOn o c d → CallsOn o c (next_call o d).1

-- behind such calls an anchor on the way would get the greatest number, where one was ever set
pub record NumberMetBehind (renumbered : Bool) (o : OptionsData) (c : Calls) : Type 0 where
  pub calls : Calls
  pub lead : CallsOn o c calls
  pub meets : MeetsNumber renumbered o calls.steps

-- the same behind any number of calls that told of a document
pub data NumberMet {I : Type 0} (unread : I → Unread → Type 0) (origin : I → Origin) : Parsing I → Calls → Type 0 where
  number_here : {p : Parsing I} {c : Calls} → NumberMetBehind p.stepper.renumbered p.stepper.scanner.options c
      → NumberMet unread origin p c
  number_later : {p next : Parsing I} {c d : Calls} → ProceedsBehind unread origin p next → ToldIn unread next d
      → NumberMet unread origin next d → NumberMet unread origin p c
