use Rattle.std.proofs.Common.{[], List, Ok, refl, sym, ap, subst, ◌∙◌}
use Rattle.granit_error.specs.OptionsData.{OptionsData}
use Rattle.granit_event.specs.Events.{plain_events}
use Rattle.granit_lexemes.specs.PlainEvent.{PlainEvent}
use Rattle.granit_machine.specs.Frames.{ParserState}
use Rattle.granit_restart.specs.Skipping.{with_pending}
use Rattle.granit_stepper.proofs.RefusalLemmas.{refused_with}
use Rattle.granit_stepper.proofs.StateLemmas.{waiting}
use Rattle.granit_stepper.proofs.WaitingLemmas.{set_aside, turns_behind}
use Rattle.granit_stepper.specs.Numbers.{GivesOr, RefusesNumber}
use Rattle.granit_stepper.specs.Refusals.{RefusedIn}
use Rattle.granit_stepper.specs.Stepping.{StandsIn, Stepping, turn_view}
use Rattle.granit_stepper.proofs.stepper.Stepper.advance_ahead.Goals as goal
use Rattle.granit_steps.specs.Steps.{step_turn}

pub returns-in_ok-put_before-in-Ok-clause-known : goal.returns-in_ok-put_before-in-Ok-clause-known
returns-in_ok-put_before-in-Ok-clause-known g c = λ m at told.
    let unread = g.T.Input.unread in
    let o = c.args.self.now.scanner.options in
    let inside : Stepping g.row.T.Denot = record {
      scanner = c.self.inside.scanner;
      parser = c.self.inside.parser;
      first = c.self.inside.first;
      failed = c.self.inside.failed;
      renumbered = c.self.inside.renumbered;
      ahead = c.self.inside.ahead;
      refusal = c.self.inside.refusal;
    } in
    let behind : Stepping g.row.T.Denot = record {
      scanner = c.self-2.inside.scanner;
      parser = c.self-2.inside.parser;
      first = c.self-2.inside.first;
      failed = c.self-2.inside.failed;
      renumbered = c.self-2.inside.renumbered;
      ahead = c.self-2.inside.ahead;
      refusal = c.self-2.inside.refusal;
    } in
    let here = subst (λ (s : Stepping g.row.T.Denot). StandsIn unread s m) (sym c.self.view_is) at in
    let first = ap (λ (s : Stepping g.row.T.Denot). s.first) c.self.view_is ∙ told in
    let options = ap (λ (s : Stepping g.row.T.Denot). s.scanner.options) c.self.view_is in
    let n = with_pending [] m in
    let that = set_aside unread inside m c.take_events-waiting.new.self here first c.take_events-waiting.ensures.rest in
    let es = plain_events c.take_events-waiting.result.items in
    let given = subst (λ (p : OptionsData). GivesOr turn_view (Ok c.in-Ok.made)
    (StandsIn unread c.advance_alone.new.self)
    (step_turn p n) (RefusesNumber c.advance_alone.new.self.renumbered p n)) options
    (c.in-Ok.ensures.known n that first refl) in
    let there = subst (λ (s : Stepping g.row.T.Denot). GivesOr turn_view (Ok c.in-Ok.made) (StandsIn unread s)
    (step_turn o n) (RefusesNumber s.renumbered o n)) (sym c.self-2.view_is) given in
    turns_behind unread o m behind (record behind { parser = c.put_before.new.self }) c.in-Ok.made es
    (c.take_events-waiting.ensures.taken ∙ sym (waiting unread inside m here first))
    (ap (λ (s : Stepping g.row.T.Denot). s.first) c.self-2.view_is ∙ c.in-Ok.ensures.keeps.first ∙ first)
    (ap (λ (p : ParserState). record behind { parser = p }) c.in_ok-put_before-in-Ok.ensures.put) there

pub returns-in-Err-clause-refused : goal.returns-in-Err-clause-refused
returns-in-Err-clause-refused g c = λ m at told calm other.
    let unread = g.T.Input.unread in
    let inside : Stepping g.row.T.Denot = record {
      scanner = c.self.inside.scanner;
      parser = c.self.inside.parser;
      first = c.self.inside.first;
      failed = c.self.inside.failed;
      renumbered = c.self.inside.renumbered;
      ahead = c.self.inside.ahead;
      refusal = c.self.inside.refusal;
    } in
    let behind : Stepping g.row.T.Denot = record {
      scanner = c.self-2.inside.scanner;
      parser = c.self-2.inside.parser;
      first = c.self-2.inside.first;
      failed = c.self-2.inside.failed;
      renumbered = c.self-2.inside.renumbered;
      ahead = c.self-2.inside.ahead;
      refusal = c.self-2.inside.refusal;
    } in
    let here = subst (λ (s : Stepping g.row.T.Denot). StandsIn unread s m) (sym c.self.view_is) at in
    let first = ap (λ (s : Stepping g.row.T.Denot). s.first) c.self.view_is ∙ told in
    let n = with_pending [] m in
    let that = set_aside unread inside m c.take_events-waiting.new.self here first c.take_events-waiting.ensures.rest in
    let refused = subst (λ (s : Stepping g.row.T.Denot). RefusedIn unread s n c.in-Err.error) (sym c.self-2.view_is)
    (c.in-Err.ensures.refused n that first refl calm other) in
    let waits = c.take_events-waiting.ensures.taken ∙ sym (waiting unread inside m here first) in
    refused_with unread behind n c.in-Err.error m.pending c.set_events.new.self behind.ahead behind.failed
    (c.set_events.ensures ∙ ap (λ (xs : List PlainEvent). record (behind.parser) { given = xs }) waits) refused
