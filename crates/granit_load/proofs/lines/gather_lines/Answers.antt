use Rattle.std.proofs.Common.{◌≡◌, Bool, [], Ok, Err, refl, sym, subst, ◌∙◌, inl}
use Rattle.granit_error.specs.OptionsData.{OptionsData}
use Rattle.granit_load.specs.Lines.{LinesLead, PushesLines}
use Rattle.granit_load.proofs.lines.gather_lines.Goals as goal
use Rattle.granit_parser.specs.Gathering.{RefusesLate}
use Rattle.granit_parser.specs.Parsing.{none_given}

pub batches-init : goal.batches-init
batches-init g c = record {
  lead = λ m at. ([], m, none_given, at, c.new-page.ensures);
  seen = c.requires.seen;
  same = refl;
  renumbered = refl;
}

pub batches-preserved : goal.batches-preserved
batches-preserved g c = record {
  lead = λ m at. subst (λ (b : Bool). PushesLines g.T.Input.unread g.T.Input.origin
      c.args.parser.now.stepper.scanner.options m (Ok b) c.push_some.new.page c.push_some.new.parser)
      c.in-Ok-true.field-0-test
      (subst (λ (o : OptionsData). LinesLead g.T.Input.unread o m c.batches.page c.batches.parser
      → PushesLines g.T.Input.unread g.T.Input.origin o m (Ok c.in-Ok-true.field-0) c.push_some.new.page
      c.push_some.new.parser) c.batches.invariant.same (c.in-Ok-true.ensures.known m)
      (c.batches.invariant.lead m at));
  seen = c.in-Ok-true.ensures.seen;
  same = c.in-Ok-true.ensures.options ∙ c.batches.invariant.same;
  renumbered = c.in-Ok-true.ensures.renumbered ∙ c.batches.invariant.renumbered;
}

pub returns-in-Ok-false-clause-known : goal.returns-in-Ok-false-clause-known
returns-in-Ok-false-clause-known g c = λ m at.
    subst (λ (b : Bool). PushesLines g.T.Input.unread g.T.Input.origin
    c.args.parser.now.stepper.scanner.options m (Ok b) c.push_some.new.page c.push_some.new.parser)
    c.in-Ok-false.field-0-test
    (subst (λ (o : OptionsData). LinesLead g.T.Input.unread o m c.batches.page c.batches.parser
    → PushesLines g.T.Input.unread g.T.Input.origin o m (Ok c.in-Ok-false.field-0) c.push_some.new.page
    c.push_some.new.parser) c.batches.invariant.same (c.in-Ok-false.ensures.known m) (c.batches.invariant.lead m at))

pub returns-in-Err-clause-known : goal.returns-in-Err-clause-known
returns-in-Err-clause-known g c = λ m at.
    subst (λ (o : OptionsData). LinesLead g.T.Input.unread o m c.batches.page c.batches.parser
    → RefusesLate g.T.Input.origin o m c.push_some.new.parser c.in-Err.error) c.batches.invariant.same
    (c.in-Err.ensures.known m) (c.batches.invariant.lead m at)

pub returns-clause-known : goal.returns-clause-known
returns-clause-known g c = λ m at.
    ([], m, none_given, inl (inl (λ other. absurd (other c.from.ensures))))
