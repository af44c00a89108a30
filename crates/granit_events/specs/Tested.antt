-- What a run does on words that begin with `selftest`.
use Rattle.std.specs.Prelude.{◌≡◌, ℕ, List}
use Rattle.std.specs.Io.KnownBytes.{Keeps}
use Rattle.granit_base.specs.Counts.{Rose}
use Rattle.granit_base.specs.Written.{Written}
use Rattle.granit_events.specs.Ended.{Fixes, IsOrYields}
use Rattle.granit_events.specs.Output.{CutOutput, WholeOutput}
use Rattle.granit_events.specs.Ran.{End}
use Rattle.granit_events.specs.SelfTest.{SelfTests}
use Rattle.granit_words.specs.Asking.{Ask, AskWrongAt}
use Rattle.granit_words.specs.Words.{spelled}
use Rattle.granit_events.specs.declared.status.Status.{Status}
use Rattle.granit_events.specs.declared.status.Status.TheVariants as status

-- one of the statuses that such words have: no fault of a text, of its bytes or of the source is among them
abbrev pub MayEnd : Status → Type 0
MayEnd status.Done = Unit {0}
MayEnd status.Usage = Unit {0}
MayEnd status.WriteFault = Unit {0}
MayEnd status.NoMemory = Unit {0}
MayEnd _ = ⊥

-- A run on such words, with the source and the sink as they were before and after, ended with that status. Nothing is
-- read.
pub record Tested (words : List Written) (source source_after sink sink_after : End) (ended_as : Status) : Type 0 where
  -- each status names its cause and fixes the output; a failed sink has a front of it, want of memory leaves none
  pub may : MayEnd ended_as
  pub ended : Fixes ended_as → WholeOutput (SelfTests words) sink.bytes sink_after.bytes ended_as
  pub write_fault : ended_as ≡ status.WriteFault
      → CutOutput (SelfTests words) sink.bytes sink_after.bytes × Rose sink.faults sink_after.faults
  pub no_memory : ended_as ≡ status.NoMemory → Keeps sink.bytes sink_after.bytes
  pub sink_count : (ended_as ≡ status.WriteFault → ⊥) → sink_after.faults ≡ sink.faults
  pub unread : source_after ≡ source
  -- the words call for a status
  pub usage : (k : ℕ) → AskWrongAt (spelled words) k → IsOrYields status.Usage ended_as
  pub right : (seed size : ℕ) → Ask (spelled words) seed size → IsOrYields status.Done ended_as
