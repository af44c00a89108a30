-- What the laws of the plain machine say of a run.
use Rattle.std.proofs.Common.{◌≡◌, ℕ, List, refl, sym, ap, ◌∙◌, subst, Option, Some, Result, Ok, Err, ◌⊎◌, inl, inr}
use Rattle.std.specs.Prelude.{length, ◌≤◌}
use Rattle.std.specs.Str.{IsUtf8, chars}
use Rattle.std.specs.Io.KnownBytes.{Appends}
use Rattle.granit_canonical.proofs.Laws.{any_fault_caused}
use Rattle.granit_canonical.proofs.Laws.{answer_reads, cause_answered, reading_answered}
use Rattle.granit_base.specs.Written.{Written}
use Rattle.granit_declared.proofs.CauseSaid.{cause_declared, declared_cause}
use Rattle.granit_declared.proofs.ReadingSaid.{answer_declared, declared_answer}
use Rattle.granit_block_layout.proofs.Laws.{block_is_read}
use Rattle.granit_block_layout.specs.Alike.{BlockAnswered}
use Rattle.granit_canonical.proofs.Laws.{canonical_is_read}
use Rattle.granit_comments.proofs.Told.{comments_told}
use Rattle.granit_comments.proofs.Unasked.{told_unasked}
use Rattle.granit_load.proofs.LoadLemmas.{json_answered}
use Rattle.granit_error.specs.OptionsData.{OptionsData}
use Rattle.granit_lexemes.specs.Line.{event_lines, fault_line}
use Rattle.granit_lexemes.specs.Outcome.{Fault}
use Rattle.granit_lexemes.specs.PlainEvent.{PlainEvent}
use Rattle.granit_machine.specs.Machine.{run}
use Rattle.granit_model.specs.Tree.{PlainTrees}
use Rattle.granit_events.specs.Came.{CameWhole, most_bytes}
use Rattle.granit_events.specs.Ended.{Ended, Fixes, CallsFor, IsOrYields, SayOptions, machine_answer}
use Rattle.granit_events.specs.Output.{WholeOutput}
use Rattle.granit_events.specs.Understood.{PrintsReading, PrintsFault, CanRead, HasCause, HasEvents, HasKnownEvents}
use Rattle.granit_events.specs.Understood.{HasBlockText, PrintsAlike, of_trees, of_json}
use Rattle.granit_words.specs.Words.{spelled}
use Rattle.granit_events.proofs.RunLemmas.{whole_bytes}
use Rattle.granit_words.proofs.WordLemmas.{say_one}
use Rattle.granit_events.specs.declared.status.Status.{Status}
use Rattle.granit_events.specs.declared.status.Status.TheVariants as status

module _ (words : List Written) (left now written after : Option (List ℕ)) where
  pub prints_reading : WholeOutput (Ended words left now) written after status.Done
      → PrintsReading words left now written after
  prints_reading w =
      let c = w.called in
      let answer = c.2.2.1 in
      record {
        options = c.0;
        said = c.1;
        bytes = c.2.0;
        came = c.2.1;
        utf8 = c.2.2.0;
        events = answer.0;
        reading = answer_declared c.0 (chars c.2.0) answer.0 (answer_reads c.0 (chars c.2.0) answer.0 answer.1);
        comments = comments_told c.0 (chars c.2.0) answer.0 answer.1;
        uncommented = told_unasked c.0 (chars c.2.0) answer.0 answer.1;
        wrote = subst (λ (output : List ℕ). Appends written after output) answer.2 w.wrote;
      }

  pub prints_fault : WholeOutput (Ended words left now) written after status.Fault
      → PrintsFault words left now written after
  prints_fault w =
      let c = w.called in
      let answer = c.2.2.1 in
      record {
        options = c.0;
        said = c.1;
        bytes = c.2.0;
        came = c.2.1;
        utf8 = c.2.2.0;
        fault = answer.0;
        cause = cause_declared c.0 (chars c.2.0) answer.0 (any_fault_caused c.0 (chars c.2.0) answer.0 answer.1);
        wrote = subst (λ (output : List ℕ). Appends written after output) answer.2 w.wrote;
      }

  pub reading_where : (s : Status) → (Fixes s → WholeOutput (Ended words left now) written after s) → s ≡ status.Done
      → PrintsReading words left now written after
  reading_where s w e = prints_reading (subst
      (λ (t : Status). Fixes t → WholeOutput (Ended words left now) written after t) e w tt)

  pub fault_where : (s : Status) → (Fixes s → WholeOutput (Ended words left now) written after s) → s ≡ status.Fault
      → PrintsFault words left now written after
  fault_where s w e = prints_fault (subst (λ (t : Status). Fixes t → WholeOutput (Ended words left now) written after t)
      e w tt)

-- a text with a reading calls for its events
pub calls_for_done : (words : List Written) (left : Option (List ℕ)) → (r : CanRead words left)
    → CallsFor words r.bytes status.Done
calls_for_done words left r =
    let a = declared_answer r.options (chars r.bytes) r.events r.reading in
    let h = reading_answered r.options (chars r.bytes) a.items a.state a.tree_events a.are_read a.to_end a.reading
    a.none in
    (r.options, r.said, r.fits, r.utf8, (h.0, h.1))

-- what is called for is answered, where no count rose
pub wanted_or_memory : (s wanted : Status) (source sink : Type 0) → IsOrYields wanted s
    → (s ≡ status.ReadFault → source) → (s ≡ status.WriteFault → sink) → (source → ⊥) → (sink → ⊥)
    → (s ≡ wanted) ⊎ (s ≡ status.NoMemory)
wanted_or_memory status.ReadFault wanted source sink y r w a b = absurd (a (r refl))
wanted_or_memory status.WriteFault wanted source sink y r w a b = absurd (b (w refl))
wanted_or_memory status.NoMemory wanted source sink y r w a b = inr refl
wanted_or_memory s wanted source sink y r w a b = inl y

-- a text with a cause is refused with it
module _ (words : List Written) (left now written after : Option (List ℕ)) (f : Fault) (h : HasCause words left f) where
  refused_answer : machine_answer h.options h.bytes ≡ Err f
  refused_answer =
      cause_answered h.options (chars h.bytes) f (declared_cause h.options (chars h.bytes) f h.cause)

  refused_calls : CallsFor words h.bytes status.Fault
  refused_calls =
      (h.options, h.said, h.fits, h.utf8, (f, refused_answer))

  refused_line : WholeOutput (Ended words left now) written after status.Fault → Appends written after (fault_line f)
  refused_line w =
      let c = w.called in
      let answer = c.2.2.1 in
      let same = whole_bytes h.bytes c.2.0 now (subst (λ (o : Option (List ℕ)). CameWhole o now c.2.0) h.told c.2.1) in
      let said = say_one (spelled words) h.options c.0 h.said c.1 in
      let given : machine_answer c.0 c.2.0 ≡ Err f =
      subst (λ (o : OptionsData). machine_answer o c.2.0 ≡ Err f) said
      (subst (λ (bytes : List ℕ). machine_answer h.options bytes ≡ Err f) same
      refused_answer) in
      let both : ◌≡◌ {A = Result (List PlainEvent) Fault} (Err answer.0) (Err f) = sym answer.1 ∙ given in
      let that : answer.0 ≡ f = cc in
      subst (λ (output : List ℕ). Appends written after output) (answer.2 ∙ ap fault_line that) w.wrote

  refused_or_memory : (s : Status) → (Fixes s → WholeOutput (Ended words left now) written after s)
      → (s ≡ status.Fault) ⊎ (s ≡ status.NoMemory)
      → ((s ≡ status.Fault) × Appends written after (fault_line f)) ⊎ (s ≡ status.NoMemory)
  refused_or_memory s w (inl e) = inl (
    e,
    refused_line
        (subst (λ (t : Status). Fixes t → WholeOutput (Ended words left now) written after t) e w tt),
  )
  refused_or_memory s w (inr e) = inr e

  -- its line is printed, where no count rose
  pub refused_run :
      (s : Status) (source sink : Type 0) → (Fixes s → WholeOutput (Ended words left now) written after s)
      → ((bytes : List ℕ) (wanted : Status) → left ≡ Some bytes → CallsFor words bytes wanted → IsOrYields wanted s)
      → (s ≡ status.ReadFault → source) → (s ≡ status.WriteFault → sink) → (source → ⊥) → (sink → ⊥)
      → ((s ≡ status.Fault) × Appends written after (fault_line f)) ⊎ (s ≡ status.NoMemory)
  refused_run s source sink w y r u a b = refused_or_memory s w
      (wanted_or_memory s status.Fault source sink (y h.bytes status.Fault h.told refused_calls) r u a b)

known_answer : (o : OptionsData) (x : List ℕ) (es : List PlainEvent) → HasKnownEvents o x es → run o x ≡ Ok es
known_answer o x es (of_trees ts fits written deep is e) =
    ap (run o) is ∙ canonical_is_read o ts fits written deep ∙ ap Ok (sym e)
known_answer o x es (of_json t d printable deep near e) =
    json_answered o x t d printable deep near ∙ ap Ok (sym e)

-- the words are right, and what a source has left is answered with these events
pub record IsAnswered (words : List Written) (left : Option (List ℕ)) (es : List PlainEvent) : Type 0 where
  options : OptionsData
  said : SayOptions words options
  bytes : List ℕ
  told : left ≡ Some bytes
  fits : length bytes ≤ most_bytes
  utf8 : IsUtf8 bytes
  answer : run options (chars bytes) ≡ Ok es

-- what is canonical text or JSON text is answered with its events
pub known_answered : (words : List Written) (left : Option (List ℕ)) (es : List PlainEvent) → HasEvents words left es
    → IsAnswered words left es
known_answered words left es h = record {
  options = h.options;
  said = h.said;
  bytes = h.bytes;
  told = h.told;
  fits = h.fits;
  utf8 = h.utf8;
  answer = known_answer h.options (chars h.bytes) es h.known;
}

module _ (words : List Written) (left now written after : Option (List ℕ)) (es : List PlainEvent)
    (h : IsAnswered words left es) where
  known_calls : CallsFor words h.bytes status.Done
  known_calls =
      (h.options, h.said, h.fits, h.utf8, (es, h.answer))

  known_lines : WholeOutput (Ended words left now) written after status.Done → Appends written after (event_lines es)
  known_lines w =
      let c = w.called in
      let answer = c.2.2.1 in
      let same = whole_bytes h.bytes c.2.0 now (subst (λ (o : Option (List ℕ)). CameWhole o now c.2.0) h.told c.2.1) in
      let said = say_one (spelled words) h.options c.0 h.said c.1 in
      let given : machine_answer c.0 c.2.0 ≡ Ok es =
      subst (λ (o : OptionsData). machine_answer o c.2.0 ≡ Ok es) said
      (subst (λ (bytes : List ℕ). machine_answer h.options bytes ≡ Ok es) same h.answer) in
      let both : ◌≡◌ {A = Result (List PlainEvent) Fault} (Ok answer.0) (Ok es) = sym answer.1 ∙ given in
      let that : answer.0 ≡ es = cc in
      subst (λ (output : List ℕ). Appends written after output) (answer.2 ∙ ap event_lines that) w.wrote

  known_or_memory : (s : Status) → (Fixes s → WholeOutput (Ended words left now) written after s)
      → (s ≡ status.Done) ⊎ (s ≡ status.NoMemory)
      → ((s ≡ status.Done) × Appends written after (event_lines es)) ⊎ (s ≡ status.NoMemory)
  known_or_memory s w (inl e) = inl (
    e,
    known_lines (subst (λ (t : Status). Fixes t → WholeOutput (Ended words left now) written after t) e w tt),
  )
  known_or_memory s w (inr e) = inr e

  -- their lines are printed, where no count rose
  pub known_run :
      (s : Status) (source sink : Type 0) → (Fixes s → WholeOutput (Ended words left now) written after s)
      → ((bytes : List ℕ) (wanted : Status) → left ≡ Some bytes → CallsFor words bytes wanted → IsOrYields wanted s)
      → (s ≡ status.ReadFault → source) → (s ≡ status.WriteFault → sink) → (source → ⊥) → (sink → ⊥)
      → ((s ≡ status.Done) × Appends written after (event_lines es)) ⊎ (s ≡ status.NoMemory)
  known_run s source sink w y r u a b = known_or_memory s w
      (wanted_or_memory s status.Done source sink (y h.bytes status.Done h.told known_calls) r u a b)

-- canonical block text is answered with events that tell what those of its flow text do
module _ (words : List Written) (left now written after : Option (List ℕ)) (ts : PlainTrees)
    (h : HasBlockText words left ts) where
  block_events : BlockAnswered h.options ts
  block_events = block_is_read h.options ts h.trees_fit h.has_characters h.flow_fits h.block_fits

  block_answered : IsAnswered words left block_events.events
  unfolding block_events
  block_answered = record {
    options = h.options;
    said = h.said;
    bytes = h.bytes;
    told = h.told;
    fits = h.fits;
    utf8 = h.utf8;
    answer = ap (run h.options) h.is ∙ block_events.answered;
  }

  told_alike : (s : Status)
      → ((s ≡ status.Done) × Appends written after (event_lines block_events.events)) ⊎ (s ≡ status.NoMemory)
      → ((s ≡ status.Done) × PrintsAlike h.options ts written after) ⊎ (s ≡ status.NoMemory)
  told_alike s (inl d) = inl (d.0, record { events = block_events.events; wrote = d.1; alike = block_events.alike })
  told_alike s (inr e) = inr e

  -- their lines are printed, where no count rose
  pub block_run :
      (s : Status) (source sink : Type 0) → (Fixes s → WholeOutput (Ended words left now) written after s)
      → ((bytes : List ℕ) (wanted : Status) → left ≡ Some bytes → CallsFor words bytes wanted → IsOrYields wanted s)
      → (s ≡ status.ReadFault → source) → (s ≡ status.WriteFault → sink) → (source → ⊥) → (sink → ⊥)
      → ((s ≡ status.Done) × PrintsAlike h.options ts written after) ⊎ (s ≡ status.NoMemory)
  block_run s source sink w y r u a b =
      told_alike s (known_run words left now written after block_events.events block_answered s source sink w y r u a b)
