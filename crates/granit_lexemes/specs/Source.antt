-- Where a lexeme stands.
use Rattle.granit_base.specs.Place.{Mark}

-- from its first character to the place behind its last
pub record Source : Type 0 where
  pub start : Mark
  pub end : Mark
