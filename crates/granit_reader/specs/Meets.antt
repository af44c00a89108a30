-- What a read came to behind its gap, as recovery asks.
use Rattle.std.specs.Prelude.{◌≡◌, Bool, true, false}
use Rattle.granit_error.specs.OptionsData.{OptionsData}
use Rattle.granit_machine.specs.Gaps.{GapRead}
use Rattle.granit_restart.specs.Header.{gap_in_directive}
use Rattle.granit_reader.specs.declared.met.Met.{Met}
use Rattle.granit_reader.specs.declared.met.Met.TheVariants as mets

-- whether a read stands among directives, by whether what stands before it does
abbrev pub behind_met : Met → Bool → Bool
behind_met mets.Nothing before = before
behind_met mets.Directive before = true
behind_met mets.Another before = false

-- what was met behind this gap is what the definition finds there
abbrev pub MeetsBehind : OptionsData → Met → GapRead → Type 0
MeetsBehind o met given = (before : Bool) → behind_met met before ≡ gap_in_directive o before given
