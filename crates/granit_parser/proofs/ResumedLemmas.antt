-- Behind a recovery from a fault calls give what the text tells that is left.
use Rattle.std.proofs.Common.{◌≡◌, Bool, List, [], ◌∷◌, ◌++◌, Some, None, Result, Ok, Err, inl, inr, ap, subst, ◌∙◌}
use Rattle.granit_chains.proofs.ChainLaws.{goes_by}
use Rattle.granit_chains.proofs.ChainLaws.{recovery_gives}
use Rattle.granit_chains.specs.Chains.{GivesOn, IsOpen}
use Rattle.granit_base.specs.Place.{Unread}
use Rattle.granit_error.specs.OptionsData.{OptionsData}
use Rattle.granit_event.specs.Events.{plain_event}
use Rattle.granit_lexemes.specs.PlainEvent.{PlainEvent}
use Rattle.granit_parser.specs.Parsing.{Next, Parsing}
use Rattle.granit_parser.specs.Recovering.{GivesCall}
use Rattle.granit_parser.specs.Resuming.{Resumed, ResumesCall}
use Rattle.granit_recovery.specs.Streams.{CallsGive, gives_next, gives_none, ReachedByCalls, reached_call}
use Rattle.granit_recovery.specs.Streams.{reached_recovery}
use Rattle.granit_restart.specs.Calls.{Calls, GivenByCall, given_by, next_call}
use Rattle.granit_restart.specs.Skipping.{Stops}
use Rattle.granit_sourced.specs.Going.{FailsAt}

call_reached : (o : OptionsData) (c after : Calls) (e : PlainEvent)
    → next_call o c ≡ (Some (Ok e), after) → ReachedByCalls o c
    → ReachedByCalls o after
call_reached o c after e is r =
    subst (ReachedByCalls o) (ap (λ (x : GivenByCall × Calls). x.1) is) (reached_call r)

gives_reached : (o : OptionsData) (c d : Calls) (es : List PlainEvent) → CallsGive o c es d
    → ReachedByCalls o c → ReachedByCalls o d
gives_reached o c d es gives_none r = r
gives_reached o c d es (gives_next {after = after} {e = e} {es = rest} is more) r =
    gives_reached o after d rest more (call_reached o c after e is r)

gives_more : (o : OptionsData) (c d after : Calls) (es : List PlainEvent) (e : PlainEvent) → CallsGive o c es d
    → next_call o d ≡ (Some (Ok e), after) → CallsGive o c (es ++ e ∷ []) after
gives_more o c d after es e gives_none is = gives_next is gives_none
gives_more o c d after es e (gives_next {after = next} {es = rest} was more) is =
    gives_next was (gives_more o next d after rest e more is)

resumed_gives : (o : OptionsData) (stops : Stops) (c e : Calls) (es : List PlainEvent) → Resumed o stops c es e
    → GivesOn o stops c.steps es e
resumed_gives o stops c e es r =
    recovery_gives o stops r.looked r.follows c r.start e r.fault es r.reached r.over r.failed r.counts r.recovers
    r.gives

pub resumed_reached : (o : OptionsData) (stops : Stops) (c e : Calls) (es : List PlainEvent) → Resumed o stops c es e
    → ReachedByCalls o e
resumed_reached o stops c e es r =
    gives_reached o r.start e es r.gives
    (subst (ReachedByCalls o) (ap (λ (x : Result Bool _ × Calls). x.1) r.recovers)
    (reached_recovery stops r.looked r.reached))

module _ {I : Type 0} (unread : I → Unread → Type 0) (o : OptionsData) (stops : Stops) (c e : Calls)
    (es : List PlainEvent) (r : Resumed o stops c es e) (goes : IsOpen e) (p : Parsing I)
    (same : p.stepper.scanner.options ≡ o) where
  one_more : (x : PlainEvent) (after : Calls) → next_call o e ≡ (Some (Ok x), after)
      → Resumed o stops c (es ++ x ∷ []) after
  one_more x after is = record {
    reached = r.reached;
    over = r.over;
    fault = r.fault;
    failed = r.failed;
    counts = r.counts;
    looked = r.looked;
    follows = r.follows;
    start = r.start;
    recovers = r.recovers;
    gives = gives_more o r.start e after es x r.gives is;
  }

  pub resumes : (n : Next) → GivesCall unread n p e → ResumesCall unread o stops c es n p e
  resumes None g = g
  resumes (Some (Ok x)) g =
      let is : next_call o e ≡ (Some (Ok (plain_event x)), g.0) =
      subst (λ (o : OptionsData). next_call o e ≡ (Some (Ok (plain_event x)), g.0)) same g.1 in
      let more = one_more (plain_event x) g.0 is in
      (g.0, more, resumed_gives o stops c g.0 (es ++ plain_event x ∷ []) more, g.2)
  resumes (Some (Err x)) g = λ other.
      let y = g other in
      let fails : FailsAt p.stepper.renumbered o y.0 e x =
      subst (λ (o : OptionsData). FailsAt p.stepper.renumbered o y.0 e x) same y.1 in
      elim fails.1 [
        | inl failed ↦ inl
            (_, goes_by o e goes ∙ ap (given_by o e) failed.0, resumed_gives o stops c e es r)
        | inr number ↦ inr number
      ]
