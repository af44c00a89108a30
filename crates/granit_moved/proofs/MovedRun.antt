-- A run gives the same wherever a text stands.
use Rattle.std.proofs.Common.{◌≡◌, ℕ, suc, ◌||◌, not, Bool, true, false, List, [], ◌∷◌, map, Option, Some, None}
use Rattle.std.proofs.Common.{Result, Ok, Err, refl, sym, ap, ap₂, ◌∙◌, subst, inl}
use Rattle.std.specs.Prelude.{if◌then◌else◌}
use Rattle.std.specs.List.{filter, list_any}
use Rattle.granit_base.specs.Place.{Mark}
use Rattle.granit_error.specs.OptionsData.{OptionsData}
use Rattle.granit_lexemes.specs.Here.{Here, mark_of}
use Rattle.granit_lexemes.specs.Lexeme.{KeyStart, Lexeme, Item, OfLexeme, OfComment, LexemeKind, StreamEnd}
use Rattle.granit_lexemes.specs.Outcome.{Fault, ◌>>=◌}
use Rattle.granit_lexemes.specs.Pieces.{turns, pieces}
use Rattle.granit_lexemes.specs.PlainEvent.{PlainEvent, event_on, StreamStart}
use Rattle.granit_lexemes.specs.declared.layout.OpenBracket.{OpenBracket}
use Rattle.granit_lexemes.specs.declared.layout.PossibleKey.{PossibleKey}
use Rattle.granit_machine.specs.Frames.{ParserState, parser_start}
use Rattle.granit_machine.specs.Laid.{Laid, laid_start}
use Rattle.granit_machine.specs.Lexing.{FlaggedItem, Flagging, is_nearest, others, and_key, flag_lexeme, flag_item}
use Rattle.granit_machine.specs.Lexing.{flagging, flagged, lex_start, lex}
use Rattle.granit_machine.specs.Machine.{is_lexeme, untailed, asked_items, feed_all, is_settled, front_if, settled}
use Rattle.granit_machine.specs.Machine.{run_answer, run_from}
use Rattle.granit_machine.specs.PossibleKeys.{is_of, is_possible}
use Rattle.granit_machine.specs.Reader.{LexState, is_end, behind_read, lex_turn, lex_len, read, is_end_kind}
use Rattle.granit_machine.specs.ReaderState.{ReaderState, Read}
use Rattle.granit_shifted.specs.Shift.{moved_mark, moved_here, moved_fault, moved_answer, moved_key, moved_lexeme}
use Rattle.granit_shifted.specs.Shift.{moved_item, moved_flagged, moved_possible, moved_bracket, moved_laid}
use Rattle.granit_shifted.specs.Shift.{moved_reader, moved_fed, Shift, moved_word, moved_fault_of, moved_reading}
use Rattle.granit_shifted.specs.Shift.{moved_number, moved_state, moved_kept, IsFirst}
use Rattle.granit_shifted.proofs.Sums.{sum_eq, none_before}
use Rattle.granit_shifted.proofs.MovedLexemes.{Same, mapped, same_ok, same_at}
use Rattle.granit_moved.proofs.MovedReader.{on_read, reads_same}
use Rattle.granit_moved.proofs.MovedStream.{feed_all_moved}
use Rattle.granit_moved.proofs.MovedTurns.{on_piece, on_all, turns_same}

module _ (shift : Shift) where
  -- ---- all reads

  abbrev pub on_turn : Option (List Item) × LexState → Option (List Item) × LexState
  on_turn x = on_piece shift (moved_item shift) (moved_reading shift) x

  abbrev on_lex : List Item × LexState → List Item × LexState
  on_lex x = on_all shift (moved_item shift) (moved_reading shift) x

  end_by : (start end : Mark) (kind : LexemeKind) → is_end_kind (moved_word shift start end kind) ≡ is_end_kind kind
  end_by start end StreamEnd = refl
  end_by start end kind = refl

  end_moved : (items : List Item) → is_end (map (moved_item shift) items) ≡ is_end items
  end_moved [] = refl
  end_moved (OfLexeme x ∷ is) = end_by x.shown.start x.shown.end x.kind
  end_moved (OfComment c ∷ is) = refl

  read_by : (r : Read) (s : ReaderState) → Same shift on_turn
      (behind_read (mapped shift (on_read shift) r) (moved_reader shift s)) (behind_read r s)
  read_by (Ok x) s = same_ok shift on_turn (Some x.0, record { reader = x.1; ended = is_end x.0; fault = None }) _
      (ap (λ (b : Bool). let y : Option (List Item)
      × LexState = (
        Some (map (moved_item shift) x.0),
        record { reader = moved_reader shift x.1; ended = b; fault = None },
      ) in y)
      (end_moved x.0))
  read_by (Err f) s = same_ok shift on_turn (None, record { reader = s; ended = false; fault = Some f }) _ refl

  pub turn_same : (o : OptionsData) (s : LexState)
      → Same shift on_turn (lex_turn o (moved_reading shift s)) (lex_turn o s)
  unfolding lex_turn
  turn_same o s = on s.ended
    where
      on : (b : Bool) → Same shift on_turn (if b then Ok (None, moved_reading shift s) else behind_read
          (read o (moved_reader shift s.reader))
          (moved_reader shift s.reader)) (if b then Ok (None, s) else behind_read (read o s.reader) s.reader)
      on true = same_ok shift on_turn (None, s) _ refl
      on false = subst (λ (r : Read). Same shift on_turn (behind_read r (moved_reader shift s.reader))
          (behind_read (read o s.reader) s.reader)) (sym (reads_same shift o s.reader).is)
          (read_by (read o s.reader) s.reader)

  lex_begins : IsFirst shift → (h : Here) → lex_start (moved_here shift h) ≡ moved_reading shift (lex_start h)
  lex_begins first h = ap (λ (n : ℕ). let s : LexState = record {
    reader = record { here = moved_here shift h; laid = record laid_start { number = n } };
    ended = false;
    fault = None;
  } in s) (none_before shift.lexemes first.0)

  lex_same : (o : OptionsData) (h : Here) → IsFirst shift → Same shift on_lex (lex o (moved_here shift h)) (lex o h)
  unfolding pieces
  lex_same o h first = same_at shift on_lex (λ (s : LexState). turns (lex_turn o) (suc (lex_len s)) s)
      (lex_start (moved_here shift h)) (moved_reading shift (lex_start h)) _ (lex_begins first h)
      (turns_same shift (moved_item shift) (moved_reading shift) (lex_turn o) (lex_turn o) (turn_same o)
      (suc (lex_len (lex_start h))) (lex_start h))

  -- ---- flags

  abbrev moved_numbers : List ℕ → List ℕ
  moved_numbers ns = map (moved_number shift) ns

  keys_moved : (key : Option KeyStart) (ns : List ℕ)
      → and_key (moved_key shift key) (moved_numbers ns) ≡ moved_numbers (and_key key ns)
  keys_moved None ns = refl
  keys_moved (Some k) ns = refl

  others_moved : (ns : List ℕ) → others (moved_numbers ns) ≡ moved_numbers (others ns)
  others_moved [] = refl
  others_moved (n ∷ ns) = refl

  nearest_moved : (n : ℕ) (ns : List ℕ) → is_nearest (moved_number shift n) (moved_numbers ns) ≡ is_nearest n ns
  nearest_moved n [] = refl
  nearest_moved n (m ∷ ns) = sum_eq shift.lexemes m n

  abbrev moved_flagging : Flagging → Flagging
  moved_flagging x = (map (moved_flagged shift) x.0, moved_numbers x.1)

  flag_moved : (flag : Bool) (l : Lexeme) (x : Flagging)
      → flag_lexeme flag (moved_lexeme shift l) (moved_flagging x) ≡ moved_flagging (flag_lexeme flag l x)
  flag_moved true l x = ap (λ (ns : List ℕ). let y : Flagging =
      (record { item = OfLexeme (moved_lexeme shift l); begins_key = true } ∷ map (moved_flagged shift) x.0, ns) in y)
      (ap (and_key (moved_key shift l.key)) (others_moved x.1) ∙ keys_moved l.key (others x.1))
  flag_moved false l x = ap (λ (ns : List ℕ). let y : Flagging =
      (record { item = OfLexeme (moved_lexeme shift l); begins_key = false } ∷ map (moved_flagged shift) x.0, ns) in y)
      (keys_moved l.key x.1)

  flagging_moved : (items : List Item) → flagging (map (moved_item shift) items) ≡ moved_flagging (flagging items)
  flagging_moved [] = refl
  flagging_moved (OfLexeme l ∷ is) = ap (flag_item (OfLexeme (moved_lexeme shift l))) (flagging_moved is)
      ∙ ap (λ (b : Bool). flag_lexeme b (moved_lexeme shift l) (moved_flagging (flagging is)))
      (nearest_moved l.number (flagging is).1)
      ∙ flag_moved (is_nearest l.number (flagging is).1) l (flagging is)
  flagging_moved (OfComment c ∷ is) = ap (flag_item (moved_item shift (OfComment c))) (flagging_moved is)

  flagged_moved : (items : List Item) → flagged (map (moved_item shift) items)
      ≡ map (moved_flagged shift) (flagged items)
  flagged_moved items = ap (λ (x : Flagging). x.0) (flagging_moved items)

  -- ---- what is asked for, and what is settled

  kept_moved : (i : Item) (flag : Bool) (more less : List FlaggedItem)
      → map untailed more ≡ map (moved_flagged shift) (map untailed less)
      → map untailed (if is_lexeme (moved_item shift i) then record { item = moved_item shift i; begins_key = flag }
      ∷ more else more)
      ≡ map (moved_flagged shift) (map untailed
      (if is_lexeme i then record { item = i; begins_key = flag } ∷ less else less))
  kept_moved (OfLexeme l) flag more less e = ap (λ (is : List FlaggedItem). let i : FlaggedItem =
      record { item = OfLexeme (record (moved_lexeme shift l) { tail = None }); begins_key = flag } in i ∷ is) e
  kept_moved (OfComment c) flag more less e = e

  without_moved : (items : List FlaggedItem) → map untailed
      (filter (λ i. is_lexeme i.item) (map (moved_flagged shift) items))
      ≡ map (moved_flagged shift) (map untailed (filter (λ i. is_lexeme i.item) items))
  without_moved [] = refl
  without_moved (i ∷ is) = kept_moved i.item i.begins_key
      (filter (λ i. is_lexeme i.item) (map (moved_flagged shift) is))
      (filter (λ i. is_lexeme i.item) is) (without_moved is)

  asked_moved : (comments : Bool) (items : List FlaggedItem)
      → asked_items comments (map (moved_flagged shift) items) ≡ map (moved_flagged shift) (asked_items comments items)
  asked_moved true items = refl
  asked_moved false items = without_moved items

  of_moved : (n : ℕ) (k : Option PossibleKey) → is_of (moved_number shift n) (moved_possible shift k) ≡ is_of n k
  of_moved n None = refl
  of_moved n (Some k) = sum_eq shift.lexemes k.number n

  any_moved : (n : ℕ) (bs : List OpenBracket)
      → list_any (λ b. is_of (moved_number shift n) b.key) (map (moved_bracket shift) bs)
      ≡ list_any (λ b. is_of n b.key) bs
  any_moved n [] = refl
  any_moved n (b ∷ bs) = ap₂ (λ (x y : Bool). x || y) (of_moved n b.key) (any_moved n bs)

  possible_moved : (n : ℕ) (l : Laid) → is_possible (moved_number shift n) (moved_laid shift l) ≡ is_possible n l
  possible_moved n l = ap₂ (λ (x y : Bool). x || y) (of_moved n l.key) (any_moved n l.brackets)

  pub settled_one : (l : Laid) (i : Item) → is_settled (moved_laid shift l) (moved_item shift i) ≡ is_settled l i
  settled_one l (OfLexeme x) = ap not (possible_moved x.number l)
  settled_one l (OfComment c) = refl

  front_moved : (b : Bool) (i : FlaggedItem) (more less : List FlaggedItem) → more ≡ map (moved_flagged shift) less
      → front_if b (moved_flagged shift i) more ≡ map (moved_flagged shift) (front_if b i less)
  front_moved true i more less e = ap (λ (is : List FlaggedItem). moved_flagged shift i ∷ is) e
  front_moved false i more less e = refl

  pub settled_moved : (l : Laid) (items : List FlaggedItem)
      → settled (moved_laid shift l) (map (moved_flagged shift) items) ≡ map (moved_flagged shift) (settled l items)
  settled_moved l [] = refl
  settled_moved l (i ∷ is) = ap (λ (b : Bool). front_if b (moved_flagged shift i)
      (settled (moved_laid shift l) (map (moved_flagged shift) is)))
      (settled_one l i.item) ∙ front_moved (is_settled l i.item) i _ (settled l is) (settled_moved l is)

  -- ---- the answer

  abbrev told_from : Mark → Result (List PlainEvent × ParserState) Fault → Result (List PlainEvent) Fault
  told_from m r = r >>= λ x. Ok (event_on StreamStart m ∷ x.0)

  told_moved : (m : Mark) (r : Result (List PlainEvent × ParserState) Fault)
      → told_from (moved_mark shift m) (moved_fed shift r) ≡ moved_answer shift (told_from m r)
  told_moved m (Ok x) = refl
  told_moved m (Err f) = refl

  refused_moved : (f : Fault) (r : Result (List PlainEvent × ParserState) Fault)
      → ◌≡◌ {A = Result (List PlainEvent) Fault} (moved_fed shift r >>= λ x. Err (moved_fault shift f))
      (moved_answer shift (r >>= λ x. Err f))
  refused_moved f (Ok x) = refl
  refused_moved f (Err g) = refl

  parser_begins : IsFirst shift → (m : Mark)
      → parser_start (moved_mark shift m) ≡ moved_state shift (parser_start m)
  parser_begins first m = ap₂ (λ (n : ℕ) (kept : List (List ℕ × List ℕ)).
      record (parser_start (moved_mark shift m)) { count = n; kept = kept }) (none_before shift.anchors first.1)
      (ap (λ (before : Option (List (List ℕ × List ℕ))). moved_kept before []) (sym first.2))

  start_fed : (o : OptionsData) (m : Mark) (items : List FlaggedItem) → IsFirst shift
      → feed_all o (map (moved_flagged shift) items) (parser_start (moved_mark shift m))
      ≡ moved_fed shift (feed_all o items (parser_start m))
  start_fed o m items first = ap (feed_all o (map (moved_flagged shift) items)) (parser_begins first m)
      ∙ feed_all_moved shift o (inl first.2) items (parser_start m)

  answered_moved : (o : OptionsData) (m : Mark) (items : List FlaggedItem) (l : Laid) (f : Option Fault)
      → IsFirst shift
      → run_answer o (moved_mark shift m) (map (moved_flagged shift) items) (moved_laid shift l)
      (moved_fault_of shift f)
      ≡ moved_answer shift (run_answer o m items l f)
  answered_moved o m items l None first = ap (told_from (moved_mark shift m)) (start_fed o m items first)
      ∙ told_moved m (feed_all o items (parser_start m))
  answered_moved o m items l (Some f) first =
      ap (λ (is : List FlaggedItem). ◌>>=◌ {A = List PlainEvent × ParserState}
      (feed_all o is (parser_start (moved_mark shift m))) (λ x. Err (moved_fault shift f))) (settled_moved l items)
      ∙ ap (λ (r : Result (List PlainEvent × ParserState) Fault). r >>= λ x. Err (moved_fault shift f))
      (start_fed o m (settled l items) first)
      ∙ refused_moved f (feed_all o (settled l items) (parser_start m))

  run_by : (o : OptionsData) (h : Here) (r : Result (List Item × LexState) Fault) → IsFirst shift
      → (mapped shift on_lex r >>= λ x. run_answer o (moved_mark shift (mark_of h))
      (asked_items o.emit_comments (flagged x.0))
      x.1.reader.laid x.1.fault)
      ≡ moved_answer shift (r >>= λ x. run_answer o (mark_of h) (asked_items o.emit_comments (flagged x.0))
      x.1.reader.laid
      x.1.fault)
  run_by o h (Ok (items, t)) first =
      ap (λ (is : List FlaggedItem). run_answer o (moved_mark shift (mark_of h)) is (moved_laid shift t.reader.laid)
      (moved_fault_of shift t.fault)) (ap (asked_items o.emit_comments) (flagged_moved items)
      ∙ asked_moved o.emit_comments (flagged items))
      ∙ answered_moved o (mark_of h) (asked_items o.emit_comments (flagged items)) t.reader.laid t.fault first
  run_by o h (Err f) first = refl

  pub run_moved : (o : OptionsData) (h : Here) → IsFirst shift
      → run_from o (moved_here shift h) ≡ moved_answer shift (run_from o h)
  run_moved o h first = ap (λ (r : Result (List Item × LexState) Fault). r >>= λ x. run_answer o
      (moved_mark shift (mark_of h))
      (asked_items o.emit_comments (flagged x.0)) x.1.reader.laid x.1.fault) (lex_same o h first).is
      ∙ run_by o h (lex o h) first
