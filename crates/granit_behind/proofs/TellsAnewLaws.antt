-- A text behind others that declare handles anew is told as it is told where these handles stay from before.
use Rattle.std.proofs.Common.{◌≡◌, ℕ, suc, ◌+◌, true, List, [], ◌∷◌, ◌++◌, length, Option, None, inl, refl, sym, ap}
use Rattle.std.proofs.Common.{ap₂, ◌∙◌, subst, arith, append_assoc, length-append}
use Rattle.granit_base.specs.Place.{Mark}
use Rattle.granit_error.specs.OptionsData.{OptionsData}
use Rattle.granit_lexemes.specs.DirectiveExtent.{bytes_of}
use Rattle.granit_lexemes.specs.Here.{mark_of, start_of}
use Rattle.granit_lexemes.specs.Outcome.{Fault}
use Rattle.granit_lexemes.specs.PlainEvent.{PlainEvent, DocumentEnd, DocumentStart, event_at, event_on, StreamStart}
use Rattle.granit_lexemes.specs.Source.{Source}
use Rattle.granit_machine.specs.Entries.{remembered}
use Rattle.granit_machine.specs.Giving.{null_at}
use Rattle.granit_handles.proofs.ReservedLaw.{bytes-append}
use Rattle.granit_restart.proofs.AheadLaws.{waits_next}
use Rattle.granit_steps.proofs.StepLaws.{only_told}
use Rattle.granit_steps.specs.Steps.{StepState, steps_start}
use Rattle.granit_steps.specs.Told.{EventsTold, GivesEvents, gives_event}
use Rattle.granit_behind.proofs.AloneStates.{sum_none}
use Rattle.granit_behind.proofs.EmptyDocumentSteps.{EmptyBefore, TextAt, anew_at, line_skipped, end_gives, line_gives}
use Rattle.granit_moved.proofs.MovedEvents.{gives_moved}
use Rattle.granit_led.specs.Declaring.{DeclaresAnew, DeclaresHandle, EmptyDocuments, TellsAnew, empty_document}
use Rattle.granit_led.specs.Declaring.{kept_start, no_document, none_declared, one_document, one_more}
use Rattle.granit_moved.specs.Moved.{moved_steps}
use Rattle.granit_shifted.specs.Shift.{Shift, moved_events, moved_fault_of}

-- ---- empty documents

abbrev triple : (start end : Source) → Mark → List PlainEvent → List PlainEvent
triple start end node es =
    event_at (DocumentStart true None) start ∷ null_at node ∷ event_at DocumentEnd end ∷ es

with_last_document : (documents : List PlainEvent) (start end : Source) (node : Mark) → EmptyDocuments documents
    → EmptyDocuments (documents ++ triple start end node [])
with_last_document [] start end node no_document = one_document start end node no_document
with_last_document documents start end node (one_document {es = es} s e n more) =
    one_document s e n (with_last_document es start end node more)

-- three events for each handle that is declared
abbrev pub told_before : {o : OptionsData} {text : List ℕ} {kept : List (List ℕ × List ℕ)} → DeclaresAnew o text kept
    → ℕ
told_before none_declared = 0
told_before (one_more before d) = suc (suc (suc (told_before before)))

-- a text behind what declares them, with that many documents
abbrev pub text_from : List ℕ → List ℕ → ℕ → TextAt
text_from before text count =
    record { text = text; bytes = bytes_of before; index = length before; line = count + 1; number = count }

-- a text behind them gives these events, and then its own
pub record DocumentsBefore (o : OptionsData) (whole : List ℕ) (count : ℕ) (es : List PlainEvent)
    (f : Option Fault) : Type 0 where
  pub documents : List PlainEvent
  pub empty : EmptyDocuments documents
  pub many : length documents ≡ count
  pub gives : GivesEvents o (anew_at (text_from [] whole 0) (mark_of (start_of whole)) []) (documents ++ es) f

module _ (o : OptionsData) (keeps : o.keep_tags ≡ true) where
  abbrev GivesTextBehind : List ℕ → (text : List ℕ) → (count : ℕ) → List (List ℕ × List ℕ) → List PlainEvent
      → Option Fault → Type 0
  GivesTextBehind before text count kept es f =
      (m : Mark) × GivesEvents o (anew_at (text_from before text count) m kept) es f

  count_on : (n : ℕ) → suc (suc (suc n)) + 1 ≡ n + 1 + 3
  count_on n = omega arith

  -- one more line and its document
  last_gives : {line word prefix : List ℕ} (before text : List ℕ) (kept : List (List ℕ × List ℕ)) (n : ℕ)
      → DeclaresHandle o line word prefix → (es : List PlainEvent) (f : Option Fault)
      → GivesTextBehind (before ++ (line ++ empty_document)) text (suc (suc (suc n))) (remembered word prefix kept) es f
      → (m : Mark)
      → EmptyBefore o (anew_at (text_from before (line ++ (empty_document ++ text)) n) m kept) es f
  last_gives {line = line} {word = word} {prefix = prefix} before text kept n d es f gives m =
      let now = remembered word prefix kept in
      let here = text_from before text n in
      let there = text_from (before ++ (line ++ empty_document)) text (suc (suc (suc n))) in
      let at = λ (a : TextAt). GivesEvents o (anew_at a gives.0 now) es f in
      line_gives o keeps d here m gives.0 kept es f
      (subst (λ (below : ℕ). at (record (line_skipped o keeps line here) { line = below })) (count_on n)
      (subst (λ (i : ℕ). at (record (line_skipped o keeps line here) { index = i; line = there.line }))
      (length-append before (line ++ empty_document))
      (subst (λ (b : ℕ). at (record there { bytes = b })) (bytes-append before (line ++ empty_document)) gives.1)))

  pub documents_give : {before : List ℕ} {kept : List (List ℕ × List ℕ)} (d : DeclaresAnew o before kept)
      (text : List ℕ) (es : List PlainEvent) (f : Option Fault) → GivesTextBehind before text (told_before d) kept es f
      → DocumentsBefore o (before ++ text) (told_before d) es f
  documents_give none_declared text es f gives = record {
    documents = [];
    empty = no_document;
    many = refl;
    gives = end_gives o (text_from [] text 0) gives.0 (mark_of (start_of text)) [] es f gives.1;
  }
  documents_give (one_more {text = before} {line = line} {handle = word} {prefix = prefix} {kept = kept} d h) text es f
      gives =
      let m = mark_of (start_of text) in
      let last = last_gives before text kept (told_before d) h es f gives m in
      let own = triple last.start last.end last.node [] in
      let first = documents_give d (line ++ (empty_document ++ text)) (own ++ es) f (m, last.gives) in
      record {
        documents = first.documents ++ own;
        empty = with_last_document first.documents last.start last.end last.node first.empty;
        many = length-append first.documents own ∙ more_events (length first.documents) (told_before d) first.many;
        gives = subst (λ (es : List PlainEvent). GivesEvents o
            (anew_at (text_from [] ((before ++ (line ++ empty_document)) ++ text) 0) m []) es f)
            (sym (append_assoc first.documents own es))
            (subst (λ (whole : List ℕ). GivesEvents o (anew_at (text_from [] whole 0) m [])
            (first.documents ++ (own ++ es)) f)
            (sym (append_assoc before (line ++ empty_document) text
            ∙ ap (λ (l : List ℕ). before ++ l) (append_assoc line empty_document text))) first.gives);
      }
    where
      more_events : (n count : ℕ) → n ≡ count → n + 3 ≡ suc (suc (suc count))
      more_events n count e = omega (arith, e)

  -- ---- the text behind them, moved

  abbrev shift_behind : List ℕ → ℕ → Shift
  shift_behind before count = record {
    index = length before;
    line = count;
    bytes = bytes_of before;
    lexemes = count;
    anchors = 0;
    offsets = true;
    lending = true;
    kept = None;
  }

  start_moved_on : (before text : List ℕ) (count : ℕ) (kept : List (List ℕ × List ℕ))
      → moved_steps (shift_behind before count) (kept_start text kept)
      ≡ anew_at (text_from before text count)
      (moved_steps (shift_behind before count) (kept_start text kept)).parser.last_end kept
  start_moved_on before text count kept =
      let m = (moved_steps (shift_behind before count) (kept_start text kept)).parser.last_end in
      let at = λ (b i number : ℕ). let a : TextAt =
      record { text = text; bytes = b; index = i; line = count + 1; number = number } in a in
      ap₂ (λ (b i : ℕ). anew_at (at b i (count + 0)) m kept) (sum_none (bytes_of before)) (sum_none (length before))
      ∙ ap (λ (number : ℕ). anew_at (at (bytes_of before) (length before) number) m kept) (sum_none count)

  moved_gives : {before : List ℕ} {kept : List (List ℕ × List ℕ)} (d : DeclaresAnew o before kept) (text : List ℕ)
      (es : List PlainEvent) (f : Option Fault) → GivesEvents o (kept_start text kept) es f
      → DocumentsBefore o (before ++ text) (told_before d) (moved_events (shift_behind before (told_before d)) es)
      (moved_fault_of (shift_behind before (told_before d)) f)
  moved_gives {before = before} {kept = kept} d text es f gives =
      let shift = shift_behind before (told_before d) in
      let moved = gives_moved shift o (inl refl) gives in
      documents_give d text (moved_events shift es) (moved_fault_of shift f) (
        (moved_steps shift (kept_start text kept)).parser.last_end,
        subst (λ (s : StepState). GivesEvents o s (moved_events shift es) (moved_fault_of shift f))
            (start_moved_on before text (told_before d) kept) moved,
      )

  -- ---- the whole

  abbrev stream_event : List ℕ → PlainEvent
  stream_event whole = event_on StreamStart (mark_of (start_of whole))

  streamed : (whole : List ℕ) (es : List PlainEvent) (f : Option Fault)
      → GivesEvents o (anew_at (text_from [] whole 0) (mark_of (start_of whole)) []) es f
      → GivesEvents o (steps_start whole) (stream_event whole ∷ es) f
  streamed whole es f gives = gives_event (waits_next o (steps_start whole) (stream_event whole) []) gives

  -- told behind them, where a text gives this with the handles that stay
  pub tells_anew : (before text : List ℕ) (kept : List (List ℕ × List ℕ)) (es : List PlainEvent) (f : Option Fault)
      → DeclaresAnew o before kept → GivesEvents o (kept_start text kept) es f → TellsAnew o kept text es f
  tells_anew before text kept es f d gives =
      let count = told_before d in
      let behind = moved_gives d text es f gives in
      let at = λ (n : ℕ). shift_behind before n in
      let told = only_told o (before ++ text) _ _ (streamed (before ++ text) _ _ behind.gives) in
      let line = sym behind.many in
      record {
        before = before;
        declares = d;
        documents = behind.documents;
        empty = behind.empty;
        lexemes = length behind.documents;
        events = ap (λ (x : EventsTold). x.0) told
            ∙ ap (λ (n : ℕ). stream_event (before ++ text) ∷ (behind.documents ++ moved_events (at n) es)) line;
        fault = ap (λ (x : EventsTold). x.1) told ∙ ap (λ (n : ℕ). moved_fault_of (at n) f) line;
      }
