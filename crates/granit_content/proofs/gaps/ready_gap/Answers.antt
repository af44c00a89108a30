use Rattle.std.proofs.Common.{refl, sym}
use Rattle.granit_error.specs.OptionsView.{options_of}
use Rattle.granit_content.proofs.GapLemmas.{ready_given}
use Rattle.granit_content.proofs.gaps.ready_gap.Goals as goal

pub returns-clause-here : goal.returns-clause-here
returns-clause-here g c = λ h k.
    let o = options_of c.args.options.now in
    let tabs = c.in_ok-refuse_leading_tab.ensures.here h k in
    let cut = c.in_ok-refuse_cut.ensures.here h k in (
      record { here = h; laid = c.behind_gap.new.self },
      (k, refl),
      rw c.behind_gap.ensures
          (ready_given o.emit_comments o c.args.moved h c.args.layouts.now _ _ (sym tabs) (sym cut)),
    )
