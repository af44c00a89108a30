-- What words and bytes call for: a status, and the output that it fixes.
use Rattle.std.specs.Prelude.{◌≡◌, ℕ, ◌<◌, ◌≤◌, List, ◌++◌, length, codes, Option, Result}
use Rattle.std.specs.Prelude.{Ok, Err}
use Rattle.std.specs.Fmt.{decimal}
use Rattle.std.specs.Str.{chars, IsUtf8}
use Rattle.std.specs.Str.Lossy.{utf8_valid_len}
use Rattle.granit_base.specs.Written.{Written}
use Rattle.granit_error.specs.FaultKind.{NoMemory}
use Rattle.granit_error.specs.OptionsData.{OptionsData}
use Rattle.granit_lexemes.specs.Line.{event_lines, fault_line}
use Rattle.granit_lexemes.specs.Outcome.{Fault}
use Rattle.granit_lexemes.specs.PlainEvent.{PlainEvent}
use Rattle.granit_machine.specs.Machine.{run}
use Rattle.granit_words.specs.Words.{Say, spelled, usage_line}
use Rattle.granit_words.specs.Words as grammar
use Rattle.granit_events.specs.Came.{most_bytes, CameWhole, CameTooMany}
use Rattle.granit_events.specs.declared.status.Status.{Status}
use Rattle.granit_events.specs.declared.status.Status.TheVariants as status

-- the words are right, and these are the options that they say
abbrev pub SayOptions : List Written → OptionsData → Type 0
SayOptions words o = Say (spelled words) o

-- the words are in the grammar
abbrev pub AreRight : List Written → Type 0
AreRight words = grammar.AreInGrammar (spelled words)

-- the k-th word is the first wrong or missing one
abbrev pub AreWrongAt : List Written → ℕ → Type 0
AreWrongAt words k = grammar.GoWrongAt (spelled words) k

abbrev pub too_long_line : List ℕ
too_long_line = codes "input too long\n"

abbrev pub not_utf8_line : ℕ → List ℕ
not_utf8_line n = (codes "not UTF-8 after " ++ decimal n) ++ codes " bytes\n"

-- what the plain machine gives for bytes that are UTF-8
abbrev pub machine_answer : OptionsData → List ℕ → Result (List PlainEvent) Fault
machine_answer o bytes = run o (chars bytes)

-- the status and the output that the whole bytes of an input call for under options
abbrev pub Answers : OptionsData → List ℕ → Status → List ℕ → Type 0
Answers o bytes status.NotUtf8 output = (IsUtf8 bytes → ⊥) × (output ≡ not_utf8_line (utf8_valid_len bytes))
Answers o bytes status.Fault output = IsUtf8 bytes
    × ((f : Fault) × (machine_answer o bytes ≡ Err f) × (output ≡ fault_line f))
Answers o bytes status.Done output = IsUtf8 bytes
    × ((events : List PlainEvent) × (machine_answer o bytes ≡ Ok events) × (output ≡ event_lines events))
Answers o bytes _ output = ⊥

-- the words were right, the whole input came, and under their options it calls for that status and output
abbrev pub EndedWhole : List Written → Option (List ℕ) → Option (List ℕ) → Status → List ℕ → Type 0
EndedWhole words before now s output = (o : OptionsData) × SayOptions words o
    × ((bytes : List ℕ) × CameWhole before now bytes × Answers o bytes s output)

-- A call of `run` ended with that status, for the reason that it names, and the output that this fixes; a fault of the
-- outside and want of memory fix none.
abbrev pub Ended : List Written → Option (List ℕ) → Option (List ℕ) → Status → List ℕ → Type 0
Ended words before now status.Usage output = (now ≡ before) × ((k : ℕ) × AreWrongAt words k × (output ≡ usage_line k))
Ended words before now status.TooLong output = AreRight words
    × ((bytes : List ℕ) × CameTooMany before now bytes × (output ≡ too_long_line))
Ended words before now status.NotUtf8 output = EndedWhole words before now status.NotUtf8 output
Ended words before now status.Fault output = EndedWhole words before now status.Fault output
Ended words before now status.Done output = EndedWhole words before now status.Done output
Ended words before now _ output = ⊥

-- a status that fixes the output
abbrev pub Fixes : Status → Type 0
Fixes status.ReadFault = ⊥
Fixes status.WriteFault = ⊥
Fixes status.NoMemory = ⊥
Fixes _ = Unit {0}

-- a status that the whole input calls for
abbrev pub ReadsAll : Status → Type 0
ReadsAll status.Done = Unit {0}
ReadsAll status.Fault = Unit {0}
ReadsAll status.NotUtf8 = Unit {0}
ReadsAll _ = ⊥

-- the status that words and all the bytes that a source has left call for
abbrev pub CallsFor : List Written → List ℕ → Status → Type 0
CallsFor words bytes status.Usage = (k : ℕ) × AreWrongAt words k
CallsFor words bytes status.TooLong = AreRight words × (most_bytes < length bytes)
CallsFor words bytes status.NotUtf8 = AreRight words × (length bytes ≤ most_bytes) × (IsUtf8 bytes → ⊥)
CallsFor words bytes status.Fault = (o : OptionsData) × SayOptions words o × (length bytes ≤ most_bytes) × IsUtf8 bytes
    × ((f : Fault) × (machine_answer o bytes ≡ Err f))
CallsFor words bytes status.Done = (o : OptionsData) × SayOptions words o × (length bytes ≤ most_bytes) × IsUtf8 bytes
    × ((events : List PlainEvent) × (machine_answer o bytes ≡ Ok events))
CallsFor words bytes _ = ⊥

-- that status, or one that stands in its place: a fault of the outside or want of memory
abbrev pub IsOrYields : Status → Status → Type 0
IsOrYields wanted status.ReadFault = Unit {0}
IsOrYields wanted status.WriteFault = Unit {0}
IsOrYields wanted status.NoMemory = Unit {0}
IsOrYields wanted s = s ≡ wanted
