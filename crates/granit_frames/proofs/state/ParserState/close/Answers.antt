use Rattle.std.proofs.Common.{◌≡◌, true, sym, ap, ◌∙◌}
use Rattle.granit_error.specs.OptionsView.{options_of}
use Rattle.granit_sorts.specs.SortViews.{machine_token}
use Rattle.granit_machine.proofs.NoneWaits.{end_top_none}
use Rattle.granit_machine.specs.Closing.{close, ends_top}
use Rattle.granit_machine.specs.Frames.{ParserState}
use Rattle.granit_frames.proofs.CloseLemmas.{closes_on, ends_none}
use Rattle.granit_frames.proofs.state.ParserState.close.Goals as goal

pub tops-preserved : goal.tops-preserved
tops-preserved c =
    let o = options_of c.args.options.now in
    let t = machine_token c.args.token.now in
    let before = c.tops.self in
    let ended = c.in_ok-end_top.ensures.leaves in
    let ends : ends_top t before before.frames ≡ true = sym c.ends_top.ensures ∙ c.tops-test.true in
    record {
      closes = ap (λ (p : ParserState). close o t p) ended ∙ closes_on o t before ends ∙ c.tops.invariant.closes;
      outside = λ free outer. ap (λ (p : ParserState). p.waiting) ended ∙ end_top_none o t before before.frames;
      kept = c.in_ok-end_top.ensures.kept ∙ c.tops.invariant.kept;
      stays = λ none. absurd (ends_none t c.args.self.now before c.tops.invariant.stays ends none);
    }

pub returns-in_err-end_top-clause-memory : goal.returns-in_err-end_top-clause-memory
returns-in_err-end_top-clause-memory c = λ none.
    let t = machine_token c.args.token.now in
    let before = c.tops.self in
    let ends : ends_top t before before.frames ≡ true = sym c.ends_top.ensures ∙ c.tops-test.true in
    absurd (ends_none t c.args.self.now before c.tops.invariant.stays ends none)
