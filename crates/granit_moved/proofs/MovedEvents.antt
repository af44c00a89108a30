-- Each call gives the same wherever the text stands.
use Rattle.std.proofs.Common.{◌≡◌, ℕ, ◌+◌, ◌*◌, ◌&&◌, ◌||◌, not, Bool, true, false, List, [], ◌∷◌, ◌++◌}
use Rattle.std.proofs.Common.{map, Option, Some, None, Result, Ok, Err, refl, sym, ap, ap₂, ◌∙◌}
use Rattle.std.specs.Prelude.{is_some}
use Rattle.std.specs.List.{filter}
use Rattle.std.proofs.lemmas.List.{map-append, length-map}
use Rattle.granit_error.specs.OptionsData.{OptionsData}
use Rattle.granit_lexemes.specs.Comment.{CommentRead}
use Rattle.granit_lexemes.specs.Lexeme.{KeyStart, Item, OfLexeme, OfComment}
use Rattle.granit_lexemes.specs.Outcome.{Fault, ◌>>=◌}
use Rattle.granit_lexemes.specs.PlainEvent.{PlainEvent}
use Rattle.granit_machine.specs.Frames.{ParserState}
use Rattle.granit_machine.specs.Laid.{Laid}
use Rattle.granit_machine.specs.Lexing.{FlaggedItem}
use Rattle.granit_machine.specs.Machine.{without_tail, is_lexeme, is_settled}
use Rattle.granit_machine.specs.Parser.{next_line, feed}
use Rattle.granit_machine.specs.Reader.{LexState}
use Rattle.granit_steps.specs.Steps.{StepState, incoming, is_key_at, key_of_item, marked_by, unflagged, pushed}
use Rattle.granit_steps.specs.Steps.{is_open_comment, asks_next, is_next_settled, is_over, may_go, free_items}
use Rattle.granit_steps.specs.Steps.{line_behind}
use Rattle.granit_steps.specs.Steps.{items_or_none, with_read, read_unless, read_more, with_fed, feed_front, front_turn}
use Rattle.granit_steps.specs.Steps.{turn_by, step_turn, reading_size_by, step_size, first_pending}
use Rattle.granit_steps.specs.Steps.{next_event}
use Rattle.granit_steps.specs.Told.{GivesEvents, gives_end, gives_fault, gives_event}
use Rattle.granit_moved.specs.Moved.{moved_steps, moved_told, moved_call}
use Rattle.granit_shifted.specs.Shift.{Shift, KeptFits, moved_event, moved_events, moved_tail, moved_key}
use Rattle.granit_shifted.specs.Shift.{moved_item, moved_flagged, moved_next, moved_state, moved_fed, moved_laid}
use Rattle.granit_shifted.specs.Shift.{moved_fault_of, moved_reading}
use Rattle.granit_shifted.proofs.MovedLexemes.{Same, mapped, same_ok, same_no, same_then, same_at}
use Rattle.granit_moved.proofs.MovedRun.{on_turn, turn_same, settled_one, settled_moved}
use Rattle.granit_moved.proofs.MovedStream.{next_moved, feed_moved}
use Rattle.granit_moved.proofs.MovedTurns.{on_piece, on_all, pieces_same, on_some}
use Rattle.granit_shifted.proofs.Sums.{sum_eq}

module _ (shift : Shift) where
  abbrev flags : List FlaggedItem → List FlaggedItem
  flags q = map (moved_flagged shift) q

  abbrev items : List Item → List Item
  items is = map (moved_item shift) is

  -- ---- the queue

  without_items : (is : List Item) → map without_tail (filter is_lexeme (items is))
      ≡ items (map without_tail (filter is_lexeme is))
  without_items [] = refl
  without_items (OfLexeme l ∷ is) = ap (λ (js : List Item). moved_item shift (without_tail (OfLexeme l)) ∷ js)
      (without_items is)
  without_items (OfComment c ∷ is) = without_items is

  incoming_moved : (b : Bool) (is : List Item) → incoming b (items is) ≡ items (incoming b is)
  incoming_moved true is = refl
  incoming_moved false is = without_items is

  key_at_moved : (k : Option KeyStart) (j : Item) → is_key_at (moved_key shift k) (moved_item shift j) ≡ is_key_at k j
  key_at_moved None j = refl
  key_at_moved (Some k) (OfLexeme l) = sum_eq shift.lexemes k.number l.number
  key_at_moved (Some k) (OfComment c) = refl

  key_of_moved : (i : Item) → key_of_item (moved_item shift i) ≡ moved_key shift (key_of_item i)
  key_of_moved (OfLexeme l) = refl
  key_of_moved (OfComment c) = refl

  marked_moved : (i : Item) (f : FlaggedItem)
      → marked_by (moved_item shift i) (moved_flagged shift f) ≡ moved_flagged shift (marked_by i f)
  marked_moved i f =
      ap (λ (b : Bool). let g : FlaggedItem =
      record { item = moved_item shift f.item; begins_key = f.begins_key || b } in g)
      (ap (λ (k : Option KeyStart). is_key_at k (moved_item shift f.item)) (key_of_moved i)
      ∙ key_at_moved (key_of_item i) f.item)

  marks_moved : (i : Item) (q : List FlaggedItem)
      → map (marked_by (moved_item shift i)) (flags q) ≡ flags (map (marked_by i) q)
  marks_moved i [] = refl
  marks_moved i (f ∷ q) = ap₂ (λ (g : FlaggedItem) (r : List FlaggedItem). g ∷ r) (marked_moved i f) (marks_moved i q)

  pushed_moved : (q : List FlaggedItem) (is : List Item) → pushed (flags q) (items is) ≡ flags (pushed q is)
  pushed_moved q [] = refl
  pushed_moved q (i ∷ is) =
      ap (λ (r : List FlaggedItem). pushed r (items is))
      (ap (λ (r : List FlaggedItem). r ++ unflagged (moved_item shift i) ∷ []) (marks_moved i q)
      ∙ sym (map-append (moved_flagged shift) (map (marked_by i) q) (unflagged i ∷ [])))
      ∙ pushed_moved (map (marked_by i) q ++ unflagged i ∷ []) is

  -- ---- what may be released

  open_moved : (c : Option CommentRead) → is_open_comment (moved_tail shift c) ≡ is_open_comment c
  open_moved None = refl
  open_moved (Some c) = refl

  asks_moved : (i : Item) → asks_next (moved_item shift i) ≡ asks_next i
  asks_moved (OfLexeme l) = open_moved l.tail
  asks_moved (OfComment c) = refl

  next_settled : (l : Laid) (q : List FlaggedItem)
      → is_next_settled (moved_laid shift l) (flags q) ≡ is_next_settled l q
  next_settled l [] = refl
  next_settled l (i ∷ is) = settled_one shift l i.item

  failed : (f : Option Fault) → is_some (moved_fault_of shift f) ≡ is_some f
  failed None = refl
  failed (Some f) = refl

  may_moved : (l : LexState) (i : FlaggedItem) (is : List FlaggedItem)
      → may_go (moved_reading shift l) (moved_flagged shift i) (flags is) ≡ may_go l i is
  may_moved l i is =
      let m = moved_laid shift l.reader.laid in
      ap₂ (λ (b d : Bool). l.ended || (b && (d || (not (asks_next (moved_item shift i.item))
      || is_next_settled m (flags is))))) (settled_one shift l.reader.laid i.item) (failed l.fault)
      ∙ ap₂ (λ (b d : Bool). l.ended || (is_settled l.reader.laid i.item && (is_some l.fault || (not b || d))))
      (asks_moved i.item) (next_settled l.reader.laid is)

  free_moved : (b : Bool) (l : Laid) (q : List FlaggedItem)
      → free_items b (moved_laid shift l) (flags q) ≡ flags (free_items b l q)
  free_moved true l q = refl
  free_moved false l q = settled_moved shift l q

  line_moved : (l : LexState) (q : List FlaggedItem)
      → line_behind (moved_reading shift l) (flags q) ≡ moved_next shift (line_behind l q)
  line_moved l q = ap next_line (free_moved l.ended l.reader.laid q)
      ∙ next_moved shift (free_items l.ended l.reader.laid q)

  -- ---- one turn

  abbrev pub on_steps : Option (List PlainEvent) × StepState → Option (List PlainEvent) × StepState
  on_steps x = on_piece shift (moved_event shift) (moved_steps shift) x

  read_items : (x : Option (List Item)) → items_or_none (on_some shift (moved_item shift) x) ≡ items (items_or_none x)
  read_items None = refl
  read_items (Some is) = refl

  with_moved : (o : OptionsData) (s : StepState) (x : Option (List Item) × LexState)
      → with_read o (moved_steps shift s) (on_turn shift x) ≡ moved_steps shift (with_read o s x)
  with_moved o s x =
      ap (λ (q : List FlaggedItem). record (moved_steps shift s) { reading = moved_reading shift x.1; queue = q })
      (ap (λ (is : List Item). pushed (flags s.queue) (incoming o.emit_comments is)) (read_items x.0)
      ∙ ap (pushed (flags s.queue)) (incoming_moved o.emit_comments (items_or_none x.0))
      ∙ pushed_moved s.queue (incoming o.emit_comments (items_or_none x.0)))

  unless_same : (o : OptionsData) (f : Option Fault) (s : StepState)
      → Same shift on_steps (read_unless o (moved_fault_of shift f) (moved_steps shift s)) (read_unless o f s)
  unless_same o (Some f) s = same_no shift on_steps f
  unless_same o None s = same_then shift (on_turn shift) on_steps _ _ _ _ (turn_same shift o s.reading)
      (λ x. same_ok shift on_steps (Some [], with_read o s x) _
      (ap (λ (t : StepState). let y : Option (List PlainEvent) × StepState = (Some [], t) in y) (with_moved o s x)))

  read_same : (o : OptionsData) (b : Bool) (s : StepState)
      → Same shift on_steps (read_more o b (moved_steps shift s)) (read_more o b s)
  read_same o true s = same_ok shift on_steps (None, s) _ refl
  read_same o false s = unless_same o s.reading.fault s

  fed_same : (r : Result (List PlainEvent × ParserState) Fault) (is : List FlaggedItem) (s : StepState)
      → Same shift on_steps (moved_fed shift r >>= λ x. Ok (Some [], with_fed (moved_steps shift s) (flags is) x))
      (r >>= λ x. Ok (Some [], with_fed s is x))
  fed_same (Ok x) is s = same_ok shift on_steps (Some [], with_fed s is x) _ refl
  fed_same (Err f) is s = same_no shift on_steps f

  module _ (o : OptionsData) (fits : KeptFits o shift) where
    feed_same : (i : FlaggedItem) (is : List FlaggedItem) (s : StepState)
        → Same shift on_steps (feed_front o (moved_flagged shift i) (flags is) (moved_steps shift s))
        (feed_front o i is s)
    feed_same i is s =
        let line = line_behind s.reading is in
        same_at shift on_steps (λ (r : Result (List PlainEvent × ParserState) Fault). r >>= λ x. Ok
        (Some [], with_fed (moved_steps shift s) (flags is) x))
        (feed o (moved_flagged shift i) (line_behind (moved_reading shift s.reading) (flags is))
        (moved_state shift s.parser)) (moved_fed shift (feed o i line s.parser)) _
        (ap (λ (next : Option ℕ). feed o (moved_flagged shift i) next (moved_state shift s.parser))
        (line_moved s.reading is) ∙ feed_moved shift o fits i line s.parser)
        (fed_same (feed o i line s.parser) is s)

    front_same : (b : Bool) (i : FlaggedItem) (is : List FlaggedItem) (s : StepState)
        → Same shift on_steps (front_turn b o (moved_flagged shift i) (flags is) (moved_steps shift s))
        (front_turn b o i is s)
    front_same true i is s = feed_same i is s
    front_same false i is s = read_same o s.reading.ended s

    turn_by_same : (es : List PlainEvent) (q : List FlaggedItem) (s : StepState)
        → Same shift on_steps (turn_by o (moved_events shift es) (flags q) (moved_steps shift s)) (turn_by o es q s)
    turn_by_same (e ∷ es) q s = same_ok shift on_steps (None, s) _ refl
    turn_by_same [] [] s = read_same o s.reading.ended s
    turn_by_same [] (i ∷ is) s =
        same_at shift on_steps (λ (b : Bool). front_turn b o (moved_flagged shift i) (flags is) (moved_steps shift s))
        (may_go (moved_reading shift s.reading) (moved_flagged shift i) (flags is)) (may_go s.reading i is) _
        (may_moved s.reading i is) (front_same (may_go s.reading i is) i is s)

    pub step_same : (s : StepState) → Same shift on_steps (step_turn o (moved_steps shift s)) (step_turn o s)
    unfolding step_turn
    step_same s = turn_by_same s.pending s.queue s

    -- ---- one event

    reading_by : (b : Bool) (l : LexState) → reading_size_by b (moved_reading shift l) ≡ reading_size_by b l
    reading_by true l = refl
    reading_by false l = refl

    size_moved : (s : StepState) → step_size (moved_steps shift s) ≡ step_size s
    size_moved s = ap₂ (λ (k n : ℕ). 3 * k + n)
        (ap (λ (b : Bool). reading_size_by (s.reading.ended || b) (moved_reading shift s.reading))
        (failed s.reading.fault) ∙ reading_by (is_over s.reading) s.reading)
        (length-map s.queue (moved_flagged shift))

    abbrev pub on_event : Option PlainEvent × StepState → Option PlainEvent × StepState
    on_event x = (moved_told shift x.0, moved_steps shift x.1)

    first_moved : (es : List PlainEvent) (s : StepState)
        → first_pending (moved_events shift es) (moved_steps shift s) ≡ on_event (first_pending es s)
    first_moved [] s = refl
    first_moved (e ∷ es) s = refl

    pub event_same : (s : StepState) → Same shift on_event (next_event o (moved_steps shift s)) (next_event o s)
    unfolding next_event
    event_same s = same_then shift (on_all shift (moved_event shift) (moved_steps shift)) on_event _ _ _ _
        (pieces_same shift (moved_event shift) (moved_steps shift) step_size (step_turn o) (step_turn o) size_moved
        step_same s)
        (λ x. same_ok shift on_event (first_pending x.1.pending x.1) _ (first_moved x.1.pending x.1))

    call_by : (r : Result (Option PlainEvent × StepState) Fault) → mapped shift on_event r ≡ moved_call shift r
    call_by (Ok x) = refl
    call_by (Err f) = refl

    pub call_moved : (s : StepState) → next_event o (moved_steps shift s) ≡ moved_call shift (next_event o s)
    call_moved s = (event_same s).is ∙ call_by (next_event o s)

    -- ---- all events

    pub gives_moved : {s : StepState} {es : List PlainEvent} {f : Option Fault} → GivesEvents o s es f
        → GivesEvents o (moved_steps shift s) (moved_events shift es) (moved_fault_of shift f)
    gives_moved {s} (gives_end e) = gives_end ((event_same s).is ∙ ap (mapped shift on_event) e)
    gives_moved {s} (gives_fault e) = gives_fault ((event_same s).is ∙ ap (mapped shift on_event) e)
    gives_moved {s} (gives_event e more) = gives_event ((event_same s).is ∙ ap (mapped shift on_event) e)
        (gives_moved more)
