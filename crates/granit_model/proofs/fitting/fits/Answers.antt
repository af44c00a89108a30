use Rattle.std.proofs.Common.{◌∙◌, sym}
use Rattle.granit_model.proofs.FittingLemmas.{told_documents, test_documents}
use Rattle.granit_model.proofs.fitting.fits.Goals as goal

pub returns : goal.returns
returns c = (
  λ h. told_documents c.args.trees.now (sym c.all_fit.ensures ∙ h),
  λ h. c.all_fit.ensures
      ∙ test_documents c.args.trees.now h,
)
