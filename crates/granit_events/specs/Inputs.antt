-- What came in, and what it calls for.
use Rattle.std.specs.Prelude.{◌≡◌, ℕ, List, Option}
use Rattle.granit_base.specs.Written.{Written}
use Rattle.granit_error.specs.OptionsView.{options_of}
use Rattle.granit_words.specs.Words.{usage_line}
use Rattle.granit_events.specs.Came.{CameWhole, CameTooMany}
use Rattle.granit_events.specs.Ended.{AreRight, AreWrongAt, Answers, SayOptions, too_long_line}
use Rattle.granit_events.specs.declared.input.Request.{Request}
use Rattle.granit_events.specs.declared.input.Request.TheVariants as came
use Rattle.granit_events.specs.declared.status.Status.{Status}
use Rattle.granit_events.specs.declared.status.Status.TheVariants as status

-- what a call took from words and a source
abbrev pub TookInput : List Written → Option (List ℕ) → Option (List ℕ) → Request → Type 0
TookInput words before now (came.WrongWord k) = (now ≡ before) × AreWrongAt words k
TookInput words before now came.TooLong = AreRight words × ((bytes : List ℕ) × CameTooMany before now bytes)
TookInput words before now (came.Whole v p) = SayOptions words (options_of p) × CameWhole before now v.items

-- the status and the output that it calls for
abbrev pub Responds : Request → Status → List ℕ → Type 0
Responds (came.WrongWord k) status.Usage output = output ≡ usage_line k
Responds came.TooLong status.TooLong output = output ≡ too_long_line
Responds (came.Whole v p) s output = Answers (options_of p) v.items s output
Responds _ _ output = ⊥
