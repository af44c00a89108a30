-- GivesThere a line that declares a handle an empty document is told, and then what the text behind it tells.
use Rattle.std.proofs.Common.{◌≡◌, ℕ, suc, ◌+◌, Bool, true, false, List, [], ◌∷◌, ◌++◌, length, Option, Some, None}
use Rattle.std.proofs.Common.{Result, Ok, Err, refl, sym, ap, ap₂, ◌∙◌, subst, arith, length-append}
use Rattle.std.specs.Char.{encode_utf8}
use Rattle.std.specs.Prelude.{if◌then◌else◌}
use Rattle.granit_base.specs.Classes.{is_blank, is_break, is_breakz, is_bom, is_gap, is_z}
use Rattle.granit_base.specs.Place.{Mark}
use Rattle.granit_error.specs.OptionsData.{OptionsData}
use Rattle.granit_language.specs.Begins.{dots}
use Rattle.granit_lexemes.proofs.PieceLemmas.{pieces_fails}
use Rattle.granit_lexemes.specs.DirectiveExtent.{bytes_of}
use Rattle.granit_lexemes.specs.Here.{Here, mark_of, past}
use Rattle.granit_lexemes.specs.Lexeme as lexemes
use Rattle.granit_lexemes.specs.Lexeme.{Item, Lexeme, OfLexeme, TagPrefix}
use Rattle.granit_lexemes.specs.Moves.{steps}
use Rattle.granit_lexemes.specs.Outcome.{Fault, ◌>>=◌}
use Rattle.granit_lexemes.specs.Pieces.{pieces, turns}
use Rattle.granit_lexemes.specs.PlainEvent.{PlainEvent, DocumentEnd, DocumentStart, event_at}
use Rattle.granit_lexemes.specs.Source.{Source}
use Rattle.granit_lexemes.specs.Tail.{tail_behind}
use Rattle.granit_machine.specs.Closing.{close_turn}
use Rattle.granit_machine.specs.Entries.{remembered}
use Rattle.granit_machine.specs.Frames.{Directives, Inside, ParserState, Root, parser_start}
use Rattle.granit_machine.specs.Gaps.{GapRead, begins_gap, gap_ends, past_gap, ready_gap, skip_gap}
use Rattle.granit_machine.specs.Giving.{null_at}
use Rattle.granit_machine.specs.Laid.{Laid}
use Rattle.granit_machine.specs.LexemeSort.{LexemeSort}
use Rattle.granit_machine.specs.Parser.{feed}
use Rattle.granit_machine.specs.Reader.{behind_read, is_end, is_end_kind, lex_turn, lexeme_by, read, read_behind}
use Rattle.granit_machine.specs.Reader.{read_whole}
use Rattle.granit_machine.specs.ReaderState.{Read, ReaderState, lexeme_to}
use Rattle.granit_machine.specs.StreamLexemes.{end_mark_up_to}
use Rattle.granit_handles.proofs.ReservedLaw.{bytes-append}
use Rattle.granit_reading.proofs.SortAnswers.{sort_answers}
use Rattle.granit_restart.proofs.AheadLaws.{first_of, turn_next, waits_next}
use Rattle.granit_restart.specs.Skipping.{with_pending}
use Rattle.granit_behind.proofs.AloneStates.{gives_from, seen_first}
use Rattle.granit_behind.proofs.DirectiveLines.{declaring, declaring_lexeme, declaring_reads, declaring_start}
use Rattle.granit_behind.proofs.DirectiveLines.{feed_parts, past_declaring}
use Rattle.granit_behind.proofs.LineGaps.{Seen, here_at, laid_at, seen_behind, skip_over, step_line, step_on}
use Rattle.granit_behind.proofs.Outer.{both_fresh}
use Rattle.granit_behind.proofs.OuterSteps.{alike, gives_alike, reading_at, same_reading}
use Rattle.granit_behind.proofs.StartReads.{marked, start_lexeme, start_read, three_on}
use Rattle.granit_behind.proofs.TextEnds.{asked}
use Rattle.granit_led.specs.Declaring.{DeclaresHandle, empty_document}
use Rattle.granit_steps.specs.Steps.{StepState, Turn, incoming, next_event, pushed, step_size, step_turn, unflagged}
use Rattle.granit_steps.specs.Steps.{with_read}
use Rattle.granit_steps.specs.Told.{GivesEvents, gives_event}

-- ---- the states

-- nothing waits
abbrev pub quiet_at : Here → Laid → ParserState → StepState
quiet_at h l p = record { reading = reading_at h l None; queue = []; parser = p; pending = [] }

-- a lexeme waits that was read last
abbrev pub one_waits : Here → Laid → Lexeme → ParserState → StepState
one_waits h l x p = record {
  reading = reading_at h l None;
  queue = unflagged (OfLexeme x) ∷ [];
  parser = p;
  pending = [];
}

abbrev pub keeping_at : Mark → List (List ℕ × List ℕ) → ParserState
keeping_at m kept = record (parser_start m) { kept = kept }

-- where a text goes on in a stream: what stands before it, and the next lexeme's number
pub record TextAt : Type 0 where
  pub text : List ℕ
  pub bytes : ℕ
  pub index : ℕ
  pub line : ℕ
  pub number : ℕ

-- at the start of a line, outside documents
abbrev pub anew_at : TextAt → Mark → List (List ℕ × List ℕ) → StepState
anew_at a m kept =
    quiet_at (here_at a.text (Some a.bytes) true a.index a.line seen_first) (laid_at a.number true) (keeping_at m kept)

-- ---- one read

module _ (o : OptionsData) where
  lexeme_turn : (h k : Here) (l m : Laid) (x : Lexeme) (p : ParserState) → is_end_kind x.kind ≡ false
      → read o (record { here = h; laid = l })
      ≡ Ok (OfLexeme (record x { tail = None }) ∷ [], record { here = k; laid = m })
      → step_turn o (quiet_at h l p) ≡ Ok (Some [], one_waits k m (record x { tail = None }) p)
  unfolding step_turn lex_turn
  lexeme_turn h k l m x p e is =
      ap (λ (r : Read). behind_read r (record { here = h; laid = l }) >>= λ y. Ok
      (Some [], with_read o (quiet_at h l p) y)) is
      ∙ ap₂ (λ (ended : Bool) (items : List Item). let turn : Turn = Ok (
        Some [],
        record {
          reading = record { reader = record { here = k; laid = m }; ended = ended; fault = None };
          queue = pushed [] items;
          parser = p;
          pending = [];
        },
      ) in turn) e (asked o.emit_comments x)

  -- ---- states that read the same

  behind_read_state : List Item → ReaderState → ParserState → StepState
  behind_read_state items after p = record {
    reading = record { reader = after; ended = is_end items; fault = None };
    queue = pushed [] (incoming o.emit_comments items);
    parser = p;
    pending = [];
  }

  abbrev next_read_by : Read → ParserState → Result (Option PlainEvent × StepState) Fault
  next_read_by (Ok x) p = next_event o (behind_read_state x.0 x.1 p)
  next_read_by (Err f) p = Err f

  none_asked : (b : Bool) → incoming b [] ≡ []
  none_asked true = refl
  none_asked false = refl

  failed_turn : (r : ReaderState) (p : ParserState) (f : Fault) (items : List Item) → items ≡ []
      → step_turn o (record {
        reading = record { reader = r; ended = false; fault = Some f };
        queue = pushed [] items;
        parser = p;
        pending = [];
      }) ≡ Err f
  unfolding step_turn
  failed_turn r p f items e = subst (λ (items : List Item). step_turn o (record {
    reading = record { reader = r; ended = false; fault = Some f };
    queue = pushed [] items;
    parser = p;
    pending = [];
  }) ≡ Err f) (sym e) refl

  read_next : (h : Here) (l : Laid) (p : ParserState) (r : Read) → read o (record { here = h; laid = l }) ≡ r
      → next_event o (quiet_at h l p) ≡ next_read_by r p
  unfolding next_event step_turn lex_turn behind_read_state
  read_next h l p (Ok x) e =
      turn_next o (quiet_at h l p) (behind_read_state x.0 x.1 p) []
      (ap (λ (r : Read). behind_read r (record { here = h; laid = l }) >>= λ y. Ok
      (Some [], with_read o (quiet_at h l p) y)) e)
  read_next h l p (Err f) e =
      let failed : StepState = record {
        reading = record { reader = record { here = h; laid = l }; ended = false; fault = Some f };
        queue = pushed [] (incoming o.emit_comments []);
        parser = p;
        pending = [];
      } in
      turn_next o (quiet_at h l p) failed []
      (ap (λ (r : Read). behind_read r (record { here = h; laid = l }) >>= λ y. Ok
      (Some [], with_read o (quiet_at h l p) y)) e)
      ∙ ap (first_of o) (pieces_fails step_size (step_turn o) failed f
      (failed_turn (record { here = h; laid = l }) p f (incoming o.emit_comments []) (none_asked o.emit_comments)))

  pub same_read_next : (h k : Here) (l m : Laid) (p : ParserState)
      → read o (record { here = h; laid = l }) ≡ read o (record { here = k; laid = m })
      → next_event o (quiet_at h l p) ≡ next_event o (quiet_at k m p)
  same_read_next h k l m p e =
      read_next h l p (read o (record { here = k; laid = m })) e
      ∙ sym (read_next k m p (read o (record { here = k; laid = m })) refl)

  -- ---- behind the line feed of a `...`

  ends_alike : (moved : Bool) (number : ℕ) (h : Here)
      → gap_ends o true h (laid_at number true) ≡ gap_ends o moved h (laid_at number true)
  unfolding gap_ends ready_gap
  ends_alike true number h = refl
  ends_alike false number h = refl

  pub feed_read : (number : ℕ) (text : List ℕ) (b i n : ℕ) (s : Seen)
      → read o (record { here = here_at (0x0A ∷ text) (Some b) true i n s; laid = laid_at number true })
      ≡ read o (record {
        here = here_at text (Some (b + 1)) true (i + 1) (n + 1) seen_first;
        laid = laid_at number true;
      })
  unfolding read past_gap is_gap is_break is_blank encode_utf8
  feed_read number text b i n s =
      let l = laid_at number true in
      let h = here_at (0x0A ∷ text) (Some b) true i n s in
      let k = here_at text (Some (b + 1)) true (i + 1) (n + 1) seen_first in
      let whole = λ (r : GapRead). r >>= λ x. read_behind o x.0 x.1 >>= λ y. read_whole o y.0 y.1 in
      ap (λ (g : Here). whole (gap_ends o true g l)) (skip_over 0x0A text h refl refl
      ∙ ap (skip_gap true text) (step_line 0x0A text (Some b) true i n s refl))
      ∙ ap whole (ends_alike (begins_gap true k) number (past_gap true k))

  -- ---- the read of a `...`

  abbrev pub dotted : List ℕ → List ℕ
  dotted text = 0x2E ∷ 0x2E ∷ 0x2E ∷ 0x0A ∷ text

  abbrev dots_seen : Seen
  dots_seen = record { column = 3; begins_line = false; tab = None }

  abbrev dots_end : List ℕ → (b i n : ℕ) → Here
  dots_end text b i n = here_at (0x0A ∷ text) (Some (b + 1 + 1 + 1)) true (i + 1 + 1 + 1) n dots_seen

  dots_on : (text : List ℕ) (b i n : ℕ)
      → steps 3 (here_at (dotted text) (Some b) true i n seen_first) ≡ dots_end text b i n
  unfolding steps encode_utf8
  dots_on text b i n =
      let one = seen_behind 0x2E (0x2E ∷ 0x2E ∷ 0x0A ∷ text) (Some b) i n seen_first in
      let two = seen_behind 0x2E (0x2E ∷ 0x0A ∷ text) (Some (b + 1)) (i + 1) n one in
      ap (steps 2) (step_on 0x2E (0x2E ∷ 0x2E ∷ 0x0A ∷ text) (Some b) true i n seen_first refl)
      ∙ ap (steps 1) (step_on 0x2E (0x2E ∷ 0x0A ∷ text) (Some (b + 1)) true (i + 1) n one refl)
      ∙ step_on 0x2E (0x0A ∷ text) (Some (b + 1 + 1)) true (i + 1 + 1) n two refl

  abbrev dots_lexeme : ℕ → Here → Lexeme
  dots_lexeme number h = lexeme_to false lexemes.DocumentEnd (mark_of (steps 3 h)) h (laid_at number false)

  dots_read : (number : ℕ) (text : List ℕ) (b i n : ℕ) (s : Seen)
      → read o (record { here = here_at (0x0A ∷ dotted text) (Some b) true i n s; laid = laid_at number false })
      ≡ Ok (
        OfLexeme (dots_lexeme number (here_at (dotted text) (Some (b + 1)) true (i + 1) (n + 1) seen_first)) ∷ [],
        record { here = dots_end text (b + 1) (i + 1) (n + 1); laid = laid_at (suc number) true },
      )
  unfolding read past_gap gap_ends ready_gap lexeme_by is_gap is_blank is_break is_bom is_breakz is_z end_mark_up_to
      tail_behind past encode_utf8
  dots_read number text b i n s =
      let l = laid_at number false in
      let g = here_at (dotted text) (Some (b + 1)) true (i + 1) (n + 1) seen_first in
      let x = dots_lexeme number g in
      ap (λ (h : Here). gap_ends o true (skip_gap false (dotted text) h) l >>= λ x. read_behind o x.0 x.1 >>= λ y.
      read_whole o y.0 y.1) (step_line 0x0A (dotted text) (Some b) true i n s refl)
      ∙ ap (λ (sort : LexemeSort). lexeme_by o sort g l >>= λ y. read_whole o y.0 y.1)
      (sort_answers false false g (dots (refl, 0x0A ∷ text, refl, feed_parts text)))
      ∙ ap (λ (h : Here). (tail_behind h (past is_blank h) >>= λ y. end_mark_up_to x l y.0 y.1) >>= λ y.
      read_whole o y.0 y.1) (dots_on text (b + 1) (i + 1) (n + 1))

  -- ---- what is fed

  abbrev behind_declaring : (word prefix : List ℕ) → Mark → List (List ℕ × List ℕ) → ParserState
  behind_declaring word prefix m kept = record (parser_start m) {
    stage = Directives None;
    handles = remembered word prefix [];
    kept = kept;
  }

  abbrev in_empty : (word prefix : List ℕ) → Mark → List (List ℕ × List ℕ) → ParserState
  in_empty word prefix m kept = record (parser_start m) {
    frames = Root true ∷ [];
    stage = Inside;
    handles = remembered word prefix [];
    kept = kept;
  }

  line_fed : (h : Here) (number : ℕ) (x : Lexeme) (word prefix : List ℕ) (m : Mark) (kept : List (List ℕ × List ℕ))
      → step_turn o (one_waits h (laid_at number true)
      (record x { kind = lexemes.Directive (TagPrefix word prefix); tail = None }) (keeping_at m kept))
      ≡ Ok (
        Some [],
        quiet_at h (laid_at number true)
            (behind_declaring word prefix m (if o.keep_tags then remembered word prefix kept else kept)),
      )
  unfolding step_turn feed pieces turns close_turn
  line_fed h number x word prefix m kept = refl

  dashes_fed : (h : Here) (number : ℕ) (x : Lexeme) (word prefix : List ℕ) (m : Mark) (kept : List (List ℕ × List ℕ))
      → step_turn o (one_waits h (laid_at number false) (record x { kind = lexemes.DocumentStart; tail = None })
      (behind_declaring word prefix m kept))
      ≡ Ok (
        Some [],
        with_pending (event_at (DocumentStart true None) x.shown ∷ [])
            (quiet_at h (laid_at number false) (in_empty word prefix x.shown.end kept)),
      )
  unfolding step_turn feed pieces turns close_turn
  dashes_fed h number x word prefix m kept = refl

  dots_fed : (h : Here) (number : ℕ) (x : Lexeme) (word prefix : List ℕ) (m : Mark) (kept : List (List ℕ × List ℕ))
      → step_turn o (one_waits h (laid_at number true) (record x { kind = lexemes.DocumentEnd; tail = None })
      (in_empty word prefix m kept))
      ≡ Ok (
        Some [],
        with_pending (null_at m ∷ event_at DocumentEnd x.shown ∷ [])
            (quiet_at h (laid_at number true) (keeping_at x.shown.end kept)),
      )
  unfolding step_turn feed pieces turns close_turn
  dots_fed h number x word prefix m kept = refl

  -- ---- what is told

  -- three events, and then what the text behind them tells
  pub record EmptyBefore (s : StepState) (es : List PlainEvent) (f : Option Fault) : Type 0 where
    pub start : Source
    pub end : Source
    pub node : Mark
    pub gives : GivesEvents o s
        (event_at (DocumentStart true None) start ∷ null_at node ∷ event_at DocumentEnd end ∷ es) f

  turn_leads : (s t : StepState) (given es : List PlainEvent) (f : Option Fault)
      → step_turn o s ≡ Ok (Some given, t) → GivesEvents o t es f → GivesEvents o s es f
  turn_leads s t given es f e gives = gives_from o t s es f (sym (turn_next o s t given e)) gives

  waiting_gives : (s : StepState) (e : PlainEvent) (waiting es : List PlainEvent) (f : Option Fault)
      → GivesEvents o (with_pending waiting s) es f → GivesEvents o (with_pending (e ∷ waiting) s) (e ∷ es) f
  waiting_gives s e waiting es f gives = gives_event (waits_next o s e waiting) gives

  -- the end of the last event is of no matter
  pub end_gives : (a : TextAt) (m k : Mark) (kept : List (List ℕ × List ℕ)) (es : List PlainEvent) (f : Option Fault)
      → GivesEvents o (anew_at a m kept) es f → GivesEvents o (anew_at a k kept) es f
  end_gives a m k kept es f gives =
      gives_alike o (anew_at a m kept) (anew_at a k kept) es f
      (alike (same_reading _) (both_fresh m k (keeping_at m kept)) [] []) gives

  -- behind a line feed and a `...` in a line
  abbrev dots_skipped : TextAt → TextAt
  dots_skipped a = record a {
    bytes = a.bytes + 1 + 1 + 1 + 1 + 1;
    index = a.index + 1 + 1 + 1 + 1 + 1;
    line = a.line + 1 + 1;
    number = suc a.number;
  }

  -- from the `...` on
  dots_give : (word prefix : List ℕ) (a : TextAt) (m k : Mark) (kept : List (List ℕ × List ℕ)) (es : List PlainEvent)
      (f : Option Fault) → GivesEvents o (anew_at (dots_skipped a) k kept) es f
      → (end : Source) × GivesEvents o (quiet_at
      (here_at (0x0A ∷ dotted a.text) (Some a.bytes) true a.index a.line dots_seen) (laid_at a.number false)
      (in_empty word prefix m kept)) (null_at m ∷ event_at DocumentEnd end ∷ es) f
  dots_give word prefix a m k kept es f gives =
      let g = here_at (dotted a.text) (Some (a.bytes + 1)) true (a.index + 1) (a.line + 1) seen_first in
      let x = dots_lexeme a.number g in
      let after = dots_end a.text (a.bytes + 1) (a.index + 1) (a.line + 1) in
      let l = laid_at (suc a.number) true in
      let p = keeping_at x.shown.end kept in
      let fresh = end_gives (dots_skipped a) k x.shown.end kept es f gives in
      let quiet = gives_from o _ (quiet_at after l p) es f
      (sym (same_read_next after _ l l p (feed_read (suc a.number) a.text (a.bytes + 1 + 1 + 1 + 1)
      (a.index + 1 + 1 + 1 + 1) (a.line + 1) dots_seen))) fresh in
      let e = event_at DocumentEnd x.shown in
      let ended = waiting_gives (quiet_at after l p) (null_at m) (e ∷ []) (e ∷ es) f
      (waiting_gives (quiet_at after l p) e [] es f quiet) in
      let waits = turn_leads (one_waits after l x (in_empty word prefix m kept)) _ [] _ f
      (dots_fed after (suc a.number) x word prefix m kept) ended in (
        x.shown,
        turn_leads _ _ [] _ f (lexeme_turn _ after (laid_at a.number false) l x (in_empty word prefix m kept) refl
            (dots_read a.number a.text a.bytes a.index a.line dots_seen)) waits,
      )

  -- behind a `---`
  abbrev mark_skipped : TextAt → TextAt
  mark_skipped a = record a { bytes = a.bytes + 1 + 1 + 1; index = a.index + 1 + 1 + 1; number = suc a.number }

  -- from the `---` on
  marked_gives : (word prefix : List ℕ) (a : TextAt) (m k : Mark) (kept : List (List ℕ × List ℕ))
      (es : List PlainEvent) (f : Option Fault) → GivesEvents o (anew_at (dots_skipped (mark_skipped a)) k kept) es f
      → EmptyBefore (quiet_at
      (here_at (marked (0x0A ∷ dotted a.text)) (Some a.bytes) true a.index a.line seen_first) (laid_at a.number true)
      (behind_declaring word prefix m kept)) es f
  unfolding is_blank is_break encode_utf8
  marked_gives word prefix a m k kept es f gives =
      let g = here_at (marked (0x0A ∷ dotted a.text)) (Some a.bytes) true a.index a.line seen_first in
      let x = start_lexeme a.number g in
      let p = in_empty word prefix x.shown.end kept in
      let l = laid_at (suc a.number) false in
      let behind = dots_give word prefix (mark_skipped a) x.shown.end k kept es f gives in
      let e = event_at (DocumentStart true None) x.shown in
      let more = null_at x.shown.end ∷ event_at DocumentEnd behind.0 ∷ es in
      let there = subst (λ (h : Here). GivesEvents o (quiet_at h l p) more f)
      (sym (three_on (0x0A ∷ dotted a.text) (Some a.bytes) true a.index a.line seen_first)) behind.1 in
      let told = waiting_gives (quiet_at (steps 3 g) l p) e [] more f there in
      let waits = turn_leads (one_waits (steps 3 g) l x (behind_declaring word prefix m kept)) _ [] _ f
      (dashes_fed (steps 3 g) (suc a.number) x word prefix m kept) told in
      record {
        start = x.shown;
        end = behind.0;
        node = x.shown.end;
        gives = turn_leads _ _ [] _ f (lexeme_turn g (steps 3 g) (laid_at a.number true) l x
            (behind_declaring word prefix m kept) refl
            (start_read o a.number (0x0A ∷ dotted a.text) (Some a.bytes) true a.index a.line refl)) waits;
      }

  -- ---- the whole

  three_lines : (n : ℕ) → n + 3 ≡ n + 1 + 1 + 1
  three_lines n = omega arith

  module _ (keeps : o.keep_tags ≡ true) where
    kept_here : (word prefix : List ℕ) (kept : List (List ℕ × List ℕ))
        → (if o.keep_tags then remembered word prefix kept else kept) ≡ remembered word prefix kept
    kept_here word prefix kept = rw keeps refl

    module _ {line word prefix : List ℕ} (d : DeclaresHandle o line word prefix) (a : TextAt) (m k : Mark)
        (kept : List (List ℕ × List ℕ)) (es : List PlainEvent) (f : Option Fault) where
      abbrev now : List (List ℕ × List ℕ)
      now = remembered word prefix kept

      abbrev line_and_document : List ℕ
      line_and_document = declaring d ++ empty_document

      line_bytes : a.bytes + bytes_of (declaring d) + 1 + 1 + 1 + 1 + 1 + 1 + 1 + 1 + 1
          ≡ a.bytes + bytes_of line_and_document
      unfolding encode_utf8
      line_bytes =
          let nine : bytes_of empty_document ≡ 9 = refl in
          omega (arith, nine, bytes-append (declaring d) empty_document)

      line_length : a.index + length (declaring d) + 1 + 1 + 1 + 1 + 1 + 1 + 1 + 1 + 1
          ≡ a.index + length line_and_document
      line_length =
          let nine : length empty_document ≡ 9 = refl in
          omega (arith, nine, length-append (declaring d) empty_document)

      abbrev GivesThere : (b i n : ℕ) → Type 0
      GivesThere b i n =
          GivesEvents o (anew_at (record a { bytes = b; index = i; line = n; number = suc (suc (suc a.number)) }) k now)
          es f

      places_same : GivesThere (a.bytes + bytes_of line_and_document) (a.index + length line_and_document) (a.line + 3)
          → GivesThere (a.bytes + bytes_of (declaring d) + 1 + 1 + 1 + 1 + 1 + 1 + 1 + 1 + 1)
          (a.index + length (declaring d) + 1 + 1 + 1 + 1 + 1 + 1 + 1 + 1 + 1) (a.line + 1 + 1 + 1)
      places_same gives =
          let bytes = a.bytes + bytes_of (declaring d) + 1 + 1 + 1 + 1 + 1 + 1 + 1 + 1 + 1 in
          let long = a.index + length (declaring d) + 1 + 1 + 1 + 1 + 1 + 1 + 1 + 1 + 1 in
          subst (λ (n : ℕ). GivesThere bytes long n) (three_lines a.line)
          (subst (λ (i : ℕ). GivesThere bytes i (a.line + 3)) (sym line_length)
          (subst (λ (b : ℕ). GivesThere b (a.index + length line_and_document) (a.line + 3)) (sym line_bytes) gives))

      -- behind the line that declares the handle
      abbrev handle_skipped : TextAt
      handle_skipped = record a {
        bytes = a.bytes + bytes_of (declaring d) + 1;
        index = a.index + length (declaring d) + 1;
        line = a.line + 1;
        number = suc a.number;
      }

      declaring_gives : GivesThere (a.bytes + bytes_of line_and_document) (a.index + length line_and_document)
          (a.line + 3)
          → EmptyBefore
          (anew_at (record a { text = declaring d ++ 0x0A ∷ marked (0x0A ∷ dotted a.text) }) m kept) es f
      declaring_gives gives =
          let behind = marked (0x0A ∷ dotted a.text) in
          let here = declaring_start d behind a.bytes a.index a.line in
          let after = past_declaring d behind a.bytes a.index a.line in
          let x = declaring_lexeme d behind a.bytes a.index a.line a.number in
          let l = laid_at (suc a.number) true in
          let told = marked_gives word prefix handle_skipped m k now es f (places_same gives) in
          let all = event_at (DocumentStart true None) told.start ∷ null_at told.node
          ∷ event_at DocumentEnd told.end ∷ es in
          let fed = subst (λ (kept : List (List ℕ × List ℕ)). GivesEvents o
          (quiet_at after l (behind_declaring word prefix m kept)) all f) (sym (kept_here word prefix kept))
          told.gives in
          let waits = turn_leads (one_waits after l x (keeping_at m kept)) _ [] all f
          (line_fed after (suc a.number) x word prefix m kept) fed in
          record {
            start = told.start;
            end = told.end;
            node = told.node;
            gives = turn_leads _ _ [] all f (lexeme_turn here after (laid_at a.number true) l x (keeping_at m kept) refl
                (declaring_reads d behind a.bytes a.index a.line a.number)) waits;
          }

    -- behind a line and an empty document
    abbrev pub line_skipped : List ℕ → TextAt → TextAt
    line_skipped line a = record a {
      bytes = a.bytes + bytes_of (line ++ empty_document);
      index = a.index + length (line ++ empty_document);
      line = a.line + 3;
      number = suc (suc (suc a.number));
    }

    -- a line that declares a handle, an empty document, and a text
    pub line_gives : {line word prefix : List ℕ} (d : DeclaresHandle o line word prefix) (a : TextAt) (m k : Mark)
        (kept : List (List ℕ × List ℕ)) (es : List PlainEvent) (f : Option Fault)
        → GivesEvents o (anew_at (line_skipped line a) k (remembered word prefix kept)) es f
        → EmptyBefore (anew_at (record a { text = line ++ (empty_document ++ a.text) }) m kept) es f
    line_gives {word = word} {prefix = prefix} d a m k kept es f =
        subst (λ (line : List ℕ). GivesEvents o (anew_at (line_skipped line a) k (remembered word prefix kept)) es f
        → EmptyBefore (anew_at (record a { text = line ++ (empty_document ++ a.text) }) m kept) es f) (sym d.is)
        (declaring_gives d a m k kept es f)
