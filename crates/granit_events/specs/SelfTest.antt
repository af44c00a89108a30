-- What the words `selftest SEED SIZE` call for.
use Rattle.std.specs.Prelude.{◌≡◌, ℕ, List}
use Rattle.granit_base.specs.Written.{Written}
use Rattle.granit_events.specs.TreeNumbers.{selftest_line}
use Rattle.granit_words.specs.Asking.{Ask, AskWrongAt}
use Rattle.granit_words.specs.Words.{spelled, usage_line}
use Rattle.granit_events.specs.declared.status.Status.{Status}
use Rattle.granit_events.specs.declared.status.Status.TheVariants as status

-- the status and the output that the words call for
abbrev pub SelfTests : List Written → Status → List ℕ → Type 0
SelfTests words status.Done output = (seed : ℕ) × (size : ℕ) × Ask (spelled words) seed size
    × (output ≡ selftest_line seed size)
SelfTests words status.Usage output = (k : ℕ) × AskWrongAt (spelled words) k × (output ≡ usage_line k)
SelfTests words _ output = ⊥
