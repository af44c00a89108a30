-- What bytes call for, and how much of it was written.
use Rattle.std.proofs.Common.{◌≡◌, ℕ, ◌<◌, true, false, List, [], ◌∷◌, ◌++◌, length, length-append, refl, ap}
use Rattle.std.proofs.Common.{arith}
use Rattle.std.specs.Prelude.{codes, Option, Result, Ok, Err}
use Rattle.std.specs.Fmt.{decimal}
use Rattle.std.specs.Str.{chars, IsUtf8}
use Rattle.std.specs.Str.Lossy.{utf8_valid_len}
use Rattle.std.specs.Io.KnownBytes.{Appends, Keeps}
use Rattle.granit_error.specs.FaultKind.{FaultKind, NoMemory, fault_number, fault_words, wants_memory}
use Rattle.granit_error.specs.Refused.{place_words}
use Rattle.granit_lexemes.specs.Line.{event_line, event_lines, fault_line}
use Rattle.granit_lexemes.specs.Outcome.{Fault}
use Rattle.granit_error.specs.OptionsData.{OptionsData}
use Rattle.granit_lexemes.specs.PlainEvent.{PlainEvent}
use Rattle.granit_steps.specs.Levels.{IsStream}
use Rattle.granit_streams.proofs.StreamLaws.{run_is_stream}
use Rattle.granit_events.specs.Ended.{Answers, machine_answer, not_utf8_line}
use Rattle.granit_events.specs.Output.{CutOutput, WholeOutput}
use Rattle.granit_events.specs.Wrote.{WroteFront}
use Rattle.granit_events.specs.declared.status.Status.TheVariants as status
use Rattle.granit_events.proofs.Known.{nothing_is_front, line_has_some}

pub cut_done : (o : OptionsData) (text : List ℕ) (a b : Option (List ℕ)) (events : List PlainEvent) → IsUtf8 text
    → machine_answer o text ≡ Ok events → WroteFront a b (event_lines events) → CutOutput (Answers o text) a b
cut_done o text a b events u e w = record {
  wanted = status.Done;
  output = event_lines events;
  called =
      (u, (events, e, refl));
  wrote = w;
}

pub cut_fault : (o : OptionsData) (text : List ℕ) (a b : Option (List ℕ)) (f : Fault) → IsUtf8 text
    → machine_answer o text ≡ Err f
    → WroteFront a b (fault_line f) → CutOutput (Answers o text) a b
cut_fault o text a b f u e w = record {
  wanted = status.Fault;
  output = fault_line f;
  called = (u, (f, e, refl));
  wrote =
      w;
}

pub whole_done : (o : OptionsData) (text : List ℕ) (a b : Option (List ℕ)) (events : List PlainEvent) → IsUtf8 text
    → machine_answer o text ≡ Ok events → Appends a b (event_lines events)
    → WholeOutput (Answers o text) a b status.Done
whole_done o text a b events u e w = record {
  output = event_lines events;
  called =
      (u, (events, e, refl));
  wrote = w;
}

pub whole_fault : (o : OptionsData) (text : List ℕ) (a b : Option (List ℕ)) (f : Fault) → IsUtf8 text
    → machine_answer o text ≡ Err f
    → Appends a b (fault_line f) → WholeOutput (Answers o text) a b status.Fault
whole_fault o text a b f u e w = record { output = fault_line f; called = (u, (f, e, refl)); wrote = w }

pub cut_not_utf8 : (o : OptionsData) (bytes : List ℕ) (a b : Option (List ℕ)) (n : ℕ) → (IsUtf8 bytes → ⊥)
    → n ≡ utf8_valid_len bytes
    → WroteFront a b (not_utf8_line n) → CutOutput (Answers o bytes) a b
cut_not_utf8 o bytes a b n u e w = record {
  wanted = status.NotUtf8;
  output = not_utf8_line n;
  called =
      (u, ap not_utf8_line e);
  wrote = w;
}

pub whole_not_utf8 : (o : OptionsData) (bytes : List ℕ) (a b : Option (List ℕ)) (n : ℕ) → (IsUtf8 bytes → ⊥)
    → n ≡ utf8_valid_len bytes
    → Appends a b (not_utf8_line n) → WholeOutput (Answers o bytes) a b status.NotUtf8
whole_not_utf8 o bytes a b n u e w = record { output = not_utf8_line n; called = (u, ap not_utf8_line e); wrote = w }

event_has_some : (e : PlainEvent) → 0 < length (event_line e)
unfolding event_line
event_has_some e = line_has_some _

lines_some : (events : List PlainEvent) → IsStream events → 0 < length (event_lines events)
lines_some [] stream = absurd cc
lines_some (e ∷ es) stream =
    omega (arith, length-append (event_line e) (event_lines es), event_has_some e)

fault_has_some : (f : Fault) → 0 < length (fault_line f)
fault_has_some f = line_has_some (((codes "fault " ++ decimal (fault_number f.kind)) ++ codes ": ")
    ++ (fault_words f.kind ++ place_words f.mark.place))

cut_some : (o : OptionsData) (text : List ℕ) (a b : Option (List ℕ)) → IsUtf8 text → Keeps a b
    → (r : Result (List PlainEvent) Fault)
    → machine_answer o text ≡ r → CutOutput (Answers o text) a b
cut_some o text a b u k (Ok events) e = cut_done o text a b events u e
    (nothing_is_front a b (event_lines events)
    (lines_some events (run_is_stream o (chars text) events e)) k)
cut_some o text a b u k (Err f) e = cut_fault o text a b f u e
    (nothing_is_front a b (fault_line f) (fault_has_some f) k)

-- nothing is written of what a text calls for
pub cut_nothing : (o : OptionsData) (text : List ℕ) (a b : Option (List ℕ)) → IsUtf8 text → Keeps a b
    → CutOutput (Answers o text) a b
cut_nothing o text a b u k = cut_some o text a b u k (machine_answer o text) refl

pub is_other : (k : FaultKind) → wants_memory k ≡ false → k ≡ NoMemory → ⊥
is_other k h e = let t : wants_memory k ≡ true = ap wants_memory e in cc
