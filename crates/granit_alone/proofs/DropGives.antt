-- Where a document is dropped up to a fault, and where reads stopped as the calls of a parser tell.
use Rattle.std.proofs.Common.{◌≡◌, Bool, true, false, List, Option, Some, None, Ok, Err, ap, ap₂, ◌∙◌, subst}
use Rattle.granit_alone.proofs.FaultLaws.{fault_gives, reached_led, recovery_gives}
use Rattle.granit_alone.proofs.LineLaws.{fault_counts, skip_counts}
use Rattle.granit_alone.proofs.RestTold.{looked_goes}
use Rattle.granit_alone.specs.Behind.{GivesOn, IsOpen}
use Rattle.granit_alone.specs.Lines.{ComesOnward, CountsAt, LinesCount}
use Rattle.granit_error.specs.OptionsData.{OptionsData}
use Rattle.granit_lexemes.specs.Outcome.{Fault}
use Rattle.granit_lexemes.specs.PlainEvent.{DocumentStart, EventKind, PlainEvent}
use Rattle.granit_recovery.specs.Streams.{CallsGive, ReachedByCalls}
use Rattle.granit_restart.specs.Calls.{Calls, GivenByCall, next_call}
use Rattle.granit_restart.specs.Recovery.{looked_by, recover, skipped_by, starts_by}
use Rattle.granit_restart.specs.Skipping.{Failed, skip_by_turns, skipped_fault, skipped_to, Stops}
use Rattle.granit_led.proofs.LedLaws.{next_led, skip_led, SkipLed}
use Rattle.granit_led.specs.Led.{Led}
use Rattle.granit_led.specs.Stopping.{FaultFits, looked_at}
use Rattle.granit_steps.specs.Steps.{StepState}

-- ---- what was looked at

starts_led : (o : OptionsData) (kind : EventKind) (c : Calls) → Led o c.steps → Led o (starts_by kind c).steps
starts_led o (DocumentStart explicit version) c led = led
starts_led o kind c led = led

seen_led : (o : OptionsData) (c : Calls) (x : GivenByCall × Calls) → Led o c.steps → Led o x.1.steps
    → Led o (looked_by c x).steps
seen_led o c (Some (Ok e), after) led next = starts_led o e.kind c led
seen_led o c (Some (Err f), after) led next = next
seen_led o c (None, after) led next = led

looked_led : (o : OptionsData) (looked : Bool) (c : Calls) → Led o c.steps → Led o (looked_at o looked c).steps
looked_led o true c led = seen_led o c (next_call o c) led (next_led o c led)
looked_led o false c led = led

-- ---- a document is dropped

-- recovery asked where calls led, perhaps behind a look at the next one, drops a document up to a fault and goes on
pub record DocumentDropped (o : OptionsData) : Type 0 where
  pub stops : Stops
  pub looked : Bool
  pub follows : Bool
  pub asked : Calls
  pub seen : Calls
  pub behind : Calls
  pub fault : Fault
  pub stopped : StepState
  pub at : looked_at o looked asked ≡ seen
  pub goes : IsOpen seen
  pub between : seen.between ≡ false
  pub failed : skip_by_turns o seen.steps ≡ Failed fault stopped
  pub is : recover o stops looked asked ≡ (Ok follows, behind)

pub dropping_gives : (o : OptionsData) (a : DocumentDropped o) (e : Calls) (es : List PlainEvent)
    → ReachedByCalls o a.asked → FaultFits CountsAt o a.stops a.stopped → CallsGive o a.behind es e
    → GivesOn o a.stops a.stopped es e
dropping_gives o a e es reached counts gives =
    let there : Led o a.seen.steps =
    subst (λ (c : Calls). Led o c.steps) a.at (looked_led o a.looked a.asked (reached_led o a.asked reached)) in
    let led : Led o a.stopped = subst (SkipLed o) a.failed (skip_led o a.seen.steps there) in
    let same : skipped_by o a.stops a.seen.fault a.seen.between a.seen.steps
    ≡ skipped_fault o a.stops a.fault a.stopped =
    ap₂ (λ (x : Option Fault) (v : Bool). skipped_by o a.stops x v a.seen.steps) a.goes.fault a.between
    ∙ ap (skipped_to o a.stops) a.failed in
    let g = looked_goes o a.stops a.asked a.seen a.behind a.follows a.looked a.at a.goes.over a.is in
    fault_gives o a.stops a.stopped a.behind e es led counts g.goes gives a.fault (g.steps ∙ same)

-- ---- as a parser's calls tell

pub onward_gives : (o : OptionsData) (stops : Stops) (looked follows : Bool) (c d e : Calls) (f : Fault)
    (es : List PlainEvent) → ReachedByCalls o c → LinesCount c → c.over ≡ false → c.fault ≡ Some f
    → FaultFits ComesOnward o stops c.steps → recover o stops looked c ≡ (Ok follows, d) → CallsGive o d es e
    → GivesOn o stops c.steps es e
onward_gives o stops looked follows c d e f es reached lines over fault on is gives =
    recovery_gives o stops looked follows c d e f es reached over fault (fault_counts o stops c.steps on lines) is gives

pub onward_dropping : (o : OptionsData) (a : DocumentDropped o) (e : Calls) (es : List PlainEvent)
    → ReachedByCalls o a.asked → LinesCount a.seen → FaultFits ComesOnward o a.stops a.stopped
    → CallsGive o a.behind es e → GivesOn o a.stops a.stopped es e
onward_dropping o a e es reached lines on gives =
    dropping_gives o a e es reached
    (fault_counts o a.stops a.stopped on (skip_counts o a.seen.steps a.stopped a.fault a.failed lines)) gives
