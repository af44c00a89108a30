-- What a run does with words, a source and a sink.
use Rattle.std.specs.Prelude.{◌≡◌, ◌⊎◌, ℕ, List, Option, Some}
use Rattle.std.specs.Io.KnownBytes.{Appends, IsAtEnd, Keeps}
use Rattle.granit_base.specs.Counts.{Rose}
use Rattle.granit_base.specs.Written.{Written}
use Rattle.granit_lexemes.specs.Line.{event_lines, fault_line}
use Rattle.granit_lexemes.specs.Outcome.{Fault}
use Rattle.granit_lexemes.specs.PlainEvent.{PlainEvent}
use Rattle.granit_model.specs.Tree.{PlainTrees}
use Rattle.granit_events.specs.Ended.{AreRight, AreWrongAt, CallsFor, Ended, Fixes, IsOrYields, ReadsAll}
use Rattle.granit_events.specs.Output.{CutOutput, WholeOutput}
use Rattle.granit_events.specs.Understood.{CanRead, HasBlockText, HasCause, HasEvents, PrintsAlike, PrintsFault}
use Rattle.granit_events.specs.Understood.{PrintsReading}
use Rattle.granit_events.specs.declared.status.Status.{Status}
use Rattle.granit_events.specs.declared.status.Status.TheVariants as status

-- what is told of a source or a sink: the bytes that it has left or was given, and its count of faults
pub record End : Type 0 where
  pub bytes : Option (List ℕ)
  pub faults : ℕ

abbrev pub end_of : {S : Type 0} → (S → Option (List ℕ)) → (S → ℕ) → S → End
end_of bytes faults s = record { bytes = bytes s; faults = faults s }

-- neither the source nor the sink told a fault
abbrev pub AreQuiet : End → End → End → End → Type 0
AreQuiet source source_after sink sink_after = (Rose source.faults source_after.faults → ⊥)
    × (Rose sink.faults sink_after.faults → ⊥)

-- A run on the words, with the source and the sink as they were before and after, ended with that status.
pub record Ran (words : List Written) (source source_after sink sink_after : End) (ended_as : Status) : Type 0 where
  -- each status names its cause and fixes the output
  pub ended : Fixes ended_as → WholeOutput (Ended words source.bytes source_after.bytes) sink.bytes sink_after.bytes
      ended_as
  pub read_fault : ended_as ≡ status.ReadFault
      → AreRight words × Keeps sink.bytes sink_after.bytes × Rose source.faults source_after.faults
  pub write_fault : ended_as ≡ status.WriteFault
      → CutOutput (Ended words source.bytes source_after.bytes) sink.bytes sink_after.bytes
      × Rose sink.faults sink_after.faults
  pub no_memory : ended_as ≡ status.NoMemory → Keeps sink.bytes sink_after.bytes
      ⊎ CutOutput (Ended words source.bytes source_after.bytes) sink.bytes sink_after.bytes
  pub source_count : (ended_as ≡ status.ReadFault → ⊥) → source_after.faults ≡ source.faults
  pub sink_count : (ended_as ≡ status.WriteFault → ⊥) → sink_after.faults ≡ sink.faults
  pub none_left : ReadsAll ended_as → IsAtEnd source_after.bytes
  pub unread : (k : ℕ) → AreWrongAt words k → source_after ≡ source
  -- the words and the bytes call for a status
  pub usage : (k : ℕ) → AreWrongAt words k → IsOrYields status.Usage ended_as
  pub exactly : (bytes : List ℕ) (wanted : Status) → source.bytes ≡ Some bytes → CallsFor words bytes wanted
      → IsOrYields wanted ended_as
  -- what was printed is so of the text under the options that the words say
  pub read : ended_as ≡ status.Done → PrintsReading words source.bytes source_after.bytes sink.bytes sink_after.bytes
  pub caused : ended_as ≡ status.Fault → PrintsFault words source.bytes source_after.bytes sink.bytes sink_after.bytes
  -- where neither end told a fault, a text with a reading is answered, and one with a cause is refused with its line
  pub answered : CanRead words source.bytes → AreQuiet source source_after sink sink_after
      → (ended_as ≡ status.Done) ⊎ (ended_as ≡ status.NoMemory)
  pub refused :
      (f : Fault) → HasCause words source.bytes f → AreQuiet source source_after sink sink_after
      → ((ended_as ≡ status.Fault) × Appends sink.bytes sink_after.bytes (fault_line f))
      ⊎ (ended_as ≡ status.NoMemory)
  -- and what is canonical text of trees, or JSON text of a value, with the lines of their events
  pub known :
      (es : List PlainEvent) → HasEvents words source.bytes es → AreQuiet source source_after sink sink_after
      → ((ended_as ≡ status.Done) × Appends sink.bytes sink_after.bytes (event_lines es))
      ⊎ (ended_as ≡ status.NoMemory)
  -- and canonical block text of trees with those of events that its flow text has, but for styles and spans
  pub layout :
      (ts : PlainTrees) (h : HasBlockText words source.bytes ts) → AreQuiet source source_after sink sink_after
      → ((ended_as ≡ status.Done) × PrintsAlike h.options ts sink.bytes sink_after.bytes)
      ⊎ (ended_as ≡ status.NoMemory)
