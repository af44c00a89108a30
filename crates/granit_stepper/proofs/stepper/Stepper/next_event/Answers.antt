use Rattle.std.proofs.Common.{◌≡◌, Some, sym, ap, ◌∙◌}
use Rattle.granit_stepper.specs.Stepping.{Stepping}
use Rattle.granit_stepper.proofs.FreeLemmas.{none_waits_first, none_waits_given}
use Rattle.granit_stepper.proofs.StateLemmas.{tells_start}
use Rattle.granit_stepper.proofs.StayLemmas.{start_first}
use Rattle.granit_stepper.proofs.stepper.Stepper.next_event.Goals as goal

pub returns-in-Some-clause-known : goal.returns-in-Some-clause-known
returns-in-Some-clause-known g c = λ m at.
    let told = c.start_stream.ensures.told in
    let first : c.args.self.now.first ≡ Some c.in-Some.start =
    ap (λ (s : Stepping g.row.T.Denot). s.first) (sym c.self.view_is) ∙ c.in-Some.is in
    rw (told.1, c.start_stream.ensures.rest) (tells_start g.T.Input.unread c.args.self.now m at
    c.args.self.now.scanner.options c.in-Some.start told.0 first told.2)

pub returns-in-Some-clause-waiting : goal.returns-in-Some-clause-waiting
returns-in-Some-clause-waiting g c = λ going.
    let told = c.start_stream.ensures.told in
    let first : c.args.self.now.first ≡ Some c.in-Some.start =
    ap (λ (s : Stepping g.row.T.Denot). s.first) (sym c.self.view_is) ∙ c.in-Some.is in
    rw (told.1, c.start_stream.ensures.rest) (start_first c.args.self.now c.in-Some.start told.0 first told.2)

pub returns-in-Some-clause-ended : goal.returns-in-Some-clause-ended
returns-in-Some-clause-ended g c = λ at.
    let told = ap (λ (s : Stepping g.row.T.Denot). s.first) c.self.view_is ∙ at.told in
    absurd (let clash = sym told ∙ c.in-Some.is in cc)

pub returns-in-Some-clause-at_once : goal.returns-in-Some-clause-at_once
returns-in-Some-clause-at_once g c = λ going none e free.
    let told = ap (λ (s : Stepping g.row.T.Denot). s.first) c.self.view_is ∙ none_waits_first c.args.self.now none in
    absurd (let clash = sym told ∙ c.in-Some.is in cc)

pub returns-in-None-clause-at_once : goal.returns-in-None-clause-at_once
returns-in-None-clause-at_once g c = λ going none. c.later_event.ensures.at_once (none_waits_given c.args.self.now none)
