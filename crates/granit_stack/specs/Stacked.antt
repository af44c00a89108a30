-- What contracts see of a stack of parsers with a resolver.
use Rattle.std.specs.Prelude.{Option}
use Rattle.granit_error.specs.OptionsData.{OptionsData}
use Rattle.granit_layers.specs.Stacking.{Stack}

-- the parsers, the options of what is included, and who finds it
pub record Stacked (S R : Type 0) : Type 0 where
  pub stack : Stack S
  pub options : OptionsData
  pub resolver : Option R
