-- Where recovery asks whether another document is there.
use Rattle.std.specs.Prelude.{◌≡◌, ℕ, false, Ok}
use Rattle.granit_error.specs.OptionsData.{OptionsData}
use Rattle.granit_restart.specs.Ahead.{NoneComes}
use Rattle.granit_restart.specs.Following.{document_follows}
use Rattle.granit_restart.specs.Looking.{look_ahead}
use Rattle.granit_steps.specs.Steps.{StepState}

-- a look ahead by turns tells it, and where it tells that none is there, none comes
pub record LookTells (o : OptionsData) (s : StepState) : Type 0 where
  pub tells : (room : ℕ) → (look_ahead o room s).0 ≡ document_follows o room s
  pub none : (room : ℕ) → document_follows o room s ≡ Ok false → NoneComes o s
