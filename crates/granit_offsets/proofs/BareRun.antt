-- A run gives the same where byte offsets or lending are forgotten.
use Rattle.std.proofs.Common.{◌≡◌, ℕ, zero, suc, ◌||◌, not, Bool, true, false, List, [], ◌∷◌, map, Option, Some, None}
use Rattle.std.proofs.Common.{Result, Ok, Err, refl, sym, ap, ap₂, ◌∙◌, subst}
use Rattle.std.specs.Prelude.{if◌then◌else◌}
use Rattle.std.specs.List.{filter, list_any}
use Rattle.std.proofs.lemmas.List.{map-append}
use Rattle.granit_base.specs.Place.{Mark}
use Rattle.granit_error.specs.OptionsData.{OptionsData}
use Rattle.granit_lexemes.specs.Here.{Here, mark_of}
use Rattle.granit_lexemes.specs.Lexeme.{KeyStart, Lexeme, Item, OfLexeme, OfComment, LexemeKind, StreamEnd}
use Rattle.granit_lexemes.specs.Outcome.{Fault, ◌>>=◌}
use Rattle.granit_lexemes.specs.Pieces.{with_front, then_more, turns, pieces}
use Rattle.granit_lexemes.specs.PlainEvent.{PlainEvent, event_on, StreamStart}
use Rattle.granit_lexemes.specs.declared.layout.OpenBracket.{OpenBracket}
use Rattle.granit_lexemes.specs.declared.layout.PossibleKey.{PossibleKey}
use Rattle.granit_machine.specs.Frames.{ParserState, parser_start}
use Rattle.granit_machine.specs.Laid.{Laid}
use Rattle.granit_machine.specs.Lexing.{FlaggedItem, Flagging, is_nearest, others, and_key, flag_lexeme, flag_item}
use Rattle.granit_machine.specs.Lexing.{flagging, flagged, lex_start, lex}
use Rattle.granit_machine.specs.Machine.{is_lexeme, untailed, asked_items, feed_all, is_settled, front_if, settled}
use Rattle.granit_machine.specs.Machine.{run_answer, run_from}
use Rattle.granit_machine.specs.PossibleKeys.{is_of, is_possible}
use Rattle.granit_machine.specs.Reader.{LexState, is_end, behind_read, lex_turn, lex_len, read, is_end_kind}
use Rattle.granit_machine.specs.ReaderState.{ReaderState, Read}
use Rattle.granit_feeding.specs.Offsets.{bare_mark, bare_here, bare_fault, bare_answer, bare_key, bare_lexeme}
use Rattle.granit_feeding.specs.Offsets.{bare_item, bare_flagged, bare_possible, bare_bracket, bare_laid}
use Rattle.granit_feeding.specs.Offsets.{bare_reader, bare_fed, Kept, bare_word}
use Rattle.granit_offsets.proofs.BareLexemes.{Same, mapped, same_ok, same_then}
use Rattle.granit_offsets.proofs.BareReader.{on_read, reads_same}
use Rattle.granit_feeding.proofs.BareStream.{feed_all_bare}

module _ (keep : Kept) where
  -- ---- all reads

  bare_fault_of : Option Fault → Option Fault
  bare_fault_of None = None
  bare_fault_of (Some f) = Some (bare_fault keep f)

  abbrev bare_lex : LexState → LexState
  bare_lex s = record { reader = bare_reader keep s.reader; ended = s.ended; fault = bare_fault_of s.fault }

  abbrev bare_items_of : Option (List Item) → Option (List Item)
  bare_items_of None = None
  bare_items_of (Some is) = Some (map (bare_item keep) is)

  abbrev on_turn : Option (List Item) × LexState → Option (List Item) × LexState
  on_turn x = (bare_items_of x.0, bare_lex x.1)

  abbrev on_lex : List Item × LexState → List Item × LexState
  on_lex x = (map (bare_item keep) x.0, bare_lex x.1)

  end_by : (start end : Mark) (kind : LexemeKind) → is_end_kind (bare_word keep start end kind) ≡ is_end_kind kind
  end_by start end StreamEnd = refl
  end_by start end kind = refl

  end_bare : (items : List Item) → is_end (map (bare_item keep) items) ≡ is_end items
  end_bare [] = refl
  end_bare (OfLexeme x ∷ is) = end_by x.shown.start x.shown.end x.kind
  end_bare (OfComment c ∷ is) = refl

  read_by : (r : Read) (s : ReaderState) → Same keep on_turn
      (behind_read (mapped keep (on_read keep) r) (bare_reader keep s)) (behind_read r s)
  unfolding bare_fault_of
  read_by (Ok x) s = same_ok keep on_turn (Some x.0, record { reader = x.1; ended = is_end x.0; fault = None }) _
      (ap (λ (b : Bool). let y : Option (List Item)
      × LexState = (
        Some (map (bare_item keep) x.0),
        record { reader = bare_reader keep x.1; ended = b; fault = None },
      ) in y)
      (end_bare x.0))
  read_by (Err f) s = same_ok keep on_turn (None, record { reader = s; ended = false; fault = Some f }) _ refl

  turn_same : (o : OptionsData) (s : LexState) → Same keep on_turn (lex_turn o (bare_lex s)) (lex_turn o s)
  unfolding lex_turn bare_fault_of
  turn_same o s = on s.ended
    where
      on : (b : Bool) → Same keep on_turn (if b then Ok (None, bare_lex s) else behind_read
          (read o (bare_reader keep s.reader))
          (bare_reader keep s.reader)) (if b then Ok (None, s) else behind_read (read o s.reader) s.reader)
      on true = same_ok keep on_turn (None, s) _ refl
      on false = subst (λ (r : Read). Same keep on_turn (behind_read r (bare_reader keep s.reader))
          (behind_read (read o s.reader) s.reader)) (sym (reads_same keep o s.reader).is)
          (read_by (read o s.reader) s.reader)

  front_same : (xs : List Item) (r s : Result (List Item × LexState) Fault) → Same keep on_lex r s
      → Same keep on_lex (with_front (map (bare_item keep) xs) r) (with_front xs s)
  front_same xs r (Ok x) p = record {
    is = ap (with_front (map (bare_item keep) xs)) p.is
        ∙ ap (λ (is : List Item). let y : Result (List Item × LexState) Fault = Ok (is, bare_lex x.1) in y)
        (sym (map-append (bare_item keep) xs x.0));
  }
  front_same xs r (Err e) p = record { is = ap (with_front (map (bare_item keep) xs)) p.is }

  more_same : (k l : LexState → Result (List Item × LexState) Fault)
      → ((s : LexState) → Same keep on_lex (k (bare_lex s)) (l s)) → (x : Option (List Item)) (s : LexState)
      → Same keep on_lex (then_more k (bare_items_of x) (bare_lex s)) (then_more l x s)
  more_same k l h None s = same_ok keep on_lex ([], s) _ refl
  more_same k l h (Some xs) s = front_same xs (k (bare_lex s)) (l s) (h s)

  turns_same : (o : OptionsData) (n : ℕ) (s : LexState)
      → Same keep on_lex (turns (lex_turn o) n (bare_lex s)) (turns (lex_turn o) n s)
  unfolding turns
  turns_same o zero s = same_ok keep on_lex ([], s) _ refl
  turns_same o (suc n) s = same_then keep on_turn on_lex _ _ _ _ (turn_same o s)
      (λ x. more_same (turns (lex_turn o) n) (turns (lex_turn o) n) (turns_same o n) x.0 x.1)

  lex_same : (o : OptionsData) (h : Here) → Same keep on_lex (lex o (bare_here keep h)) (lex o h)
  unfolding pieces bare_fault_of
  lex_same o h = turns_same o (suc (lex_len (lex_start h))) (lex_start h)

  -- ---- flags

  keys_bare : (key : Option KeyStart) (ns : List ℕ) → and_key (bare_key keep key) ns ≡ and_key key ns
  keys_bare None ns = refl
  keys_bare (Some k) ns = refl

  abbrev bare_flagging : Flagging → Flagging
  bare_flagging x = (map (bare_flagged keep) x.0, x.1)

  flag_bare : (flag : Bool) (l : Lexeme) (x : Flagging)
      → flag_lexeme flag (bare_lexeme keep l) (bare_flagging x) ≡ bare_flagging (flag_lexeme flag l x)
  flag_bare true l x = ap (λ (ns : List ℕ). let y : Flagging =
      (record { item = OfLexeme (bare_lexeme keep l); begins_key = true } ∷ map (bare_flagged keep) x.0, ns) in y)
      (keys_bare l.key (others x.1))
  flag_bare false l x = ap (λ (ns : List ℕ). let y : Flagging =
      (record { item = OfLexeme (bare_lexeme keep l); begins_key = false } ∷ map (bare_flagged keep) x.0, ns) in y)
      (keys_bare l.key x.1)

  flagging_bare : (items : List Item) → flagging (map (bare_item keep) items) ≡ bare_flagging (flagging items)
  flagging_bare [] = refl
  flagging_bare (OfLexeme l ∷ is) = ap (flag_item (OfLexeme (bare_lexeme keep l))) (flagging_bare is)
      ∙ flag_bare (is_nearest l.number (flagging is).1) l (flagging is)
  flagging_bare (OfComment c ∷ is) = ap (flag_item (bare_item keep (OfComment c))) (flagging_bare is)

  flagged_bare : (items : List Item) → flagged (map (bare_item keep) items) ≡ map (bare_flagged keep) (flagged items)
  flagged_bare items = ap (λ (x : Flagging). x.0) (flagging_bare items)

  -- ---- what is asked for, and what is settled

  kept_bare : (i : Item) (flag : Bool) (more less : List FlaggedItem)
      → map untailed more ≡ map (bare_flagged keep) (map untailed less)
      → map untailed (if is_lexeme (bare_item keep i) then record { item = bare_item keep i; begins_key = flag }
      ∷ more else more)
      ≡ map (bare_flagged keep) (map untailed
      (if is_lexeme i then record { item = i; begins_key = flag } ∷ less else less))
  kept_bare (OfLexeme l) flag more less e = ap (λ (is : List FlaggedItem). let i : FlaggedItem =
      record { item = OfLexeme (record (bare_lexeme keep l) { tail = None }); begins_key = flag } in i ∷ is) e
  kept_bare (OfComment c) flag more less e = e

  without_bare : (items : List FlaggedItem) → map untailed
      (filter (λ i. is_lexeme i.item) (map (bare_flagged keep) items))
      ≡ map (bare_flagged keep) (map untailed (filter (λ i. is_lexeme i.item) items))
  without_bare [] = refl
  without_bare (i ∷ is) = kept_bare i.item i.begins_key (filter (λ i. is_lexeme i.item) (map (bare_flagged keep) is))
      (filter (λ i. is_lexeme i.item) is) (without_bare is)

  asked_bare : (comments : Bool) (items : List FlaggedItem)
      → asked_items comments (map (bare_flagged keep) items) ≡ map (bare_flagged keep) (asked_items comments items)
  asked_bare true items = refl
  asked_bare false items = without_bare items

  of_bare : (n : ℕ) (k : Option PossibleKey) → is_of n (bare_possible keep k) ≡ is_of n k
  of_bare n None = refl
  of_bare n (Some k) = refl

  any_bare : (n : ℕ) (bs : List OpenBracket) → list_any (λ b. is_of n b.key) (map (bare_bracket keep) bs)
      ≡ list_any (λ b. is_of n b.key) bs
  any_bare n [] = refl
  any_bare n (b ∷ bs) = ap₂ (λ (x y : Bool). x || y) (of_bare n b.key) (any_bare n bs)

  possible_bare : (n : ℕ) (l : Laid) → is_possible n (bare_laid keep l) ≡ is_possible n l
  possible_bare n l = ap₂ (λ (x y : Bool). x || y) (of_bare n l.key) (any_bare n l.brackets)

  settled_one : (l : Laid) (i : Item) → is_settled (bare_laid keep l) (bare_item keep i) ≡ is_settled l i
  settled_one l (OfLexeme x) = ap not (possible_bare x.number l)
  settled_one l (OfComment c) = refl

  front_bare : (b : Bool) (i : FlaggedItem) (more less : List FlaggedItem) → more ≡ map (bare_flagged keep) less
      → front_if b (bare_flagged keep i) more ≡ map (bare_flagged keep) (front_if b i less)
  front_bare true i more less e = ap (λ (is : List FlaggedItem). bare_flagged keep i ∷ is) e
  front_bare false i more less e = refl

  settled_bare : (l : Laid) (items : List FlaggedItem)
      → settled (bare_laid keep l) (map (bare_flagged keep) items) ≡ map (bare_flagged keep) (settled l items)
  settled_bare l [] = refl
  settled_bare l (i ∷ is) = ap (λ (b : Bool). front_if b (bare_flagged keep i)
      (settled (bare_laid keep l) (map (bare_flagged keep) is)))
      (settled_one l i.item) ∙ front_bare (is_settled l i.item) i _ (settled l is) (settled_bare l is)

  -- ---- the answer

  abbrev told_from : Mark → Result (List PlainEvent × ParserState) Fault → Result (List PlainEvent) Fault
  told_from m r = r >>= λ x. Ok (event_on StreamStart m ∷ x.0)

  told_bare : (m : Mark) (r : Result (List PlainEvent × ParserState) Fault)
      → told_from (bare_mark keep m) (bare_fed keep r) ≡ bare_answer keep (told_from m r)
  told_bare m (Ok x) = refl
  told_bare m (Err f) = refl

  refused_bare : (f : Fault) (r : Result (List PlainEvent × ParserState) Fault)
      → ◌≡◌ {A = Result (List PlainEvent) Fault} (bare_fed keep r >>= λ x. Err (bare_fault keep f))
      (bare_answer keep (r >>= λ x. Err f))
  refused_bare f (Ok x) = refl
  refused_bare f (Err g) = refl

  answered_bare : (o : OptionsData) (m : Mark) (items : List FlaggedItem) (l : Laid) (f : Option Fault)
      → run_answer o (bare_mark keep m) (map (bare_flagged keep) items) (bare_laid keep l) (bare_fault_of f)
      ≡ bare_answer keep (run_answer o m items l f)
  unfolding bare_fault_of
  answered_bare o m items l None = ap (told_from (bare_mark keep m)) (feed_all_bare keep o items (parser_start m))
      ∙ told_bare m (feed_all o items (parser_start m))
  answered_bare o m items l (Some f) =
      ap (λ (is : List FlaggedItem). ◌>>=◌ {A = List PlainEvent × ParserState}
      (feed_all o is (parser_start (bare_mark keep m))) (λ x. Err (bare_fault keep f))) (settled_bare l items)
      ∙ ap (λ (r : Result (List PlainEvent × ParserState) Fault). r >>= λ x. Err (bare_fault keep f))
      (feed_all_bare keep o (settled l items) (parser_start m))
      ∙ refused_bare f (feed_all o (settled l items) (parser_start m))

  run_by : (o : OptionsData) (h : Here) (r : Result (List Item × LexState) Fault)
      → (mapped keep on_lex r >>= λ x. run_answer o (bare_mark keep (mark_of h))
      (asked_items o.emit_comments (flagged x.0))
      x.1.reader.laid x.1.fault)
      ≡ bare_answer keep (r >>= λ x. run_answer o (mark_of h)
      (asked_items o.emit_comments (flagged x.0)) x.1.reader.laid
      x.1.fault)
  run_by o h (Ok (items, t)) =
      ap (λ (is : List FlaggedItem). run_answer o (bare_mark keep (mark_of h)) is (bare_laid keep t.reader.laid)
      (bare_fault_of t.fault)) (ap (asked_items o.emit_comments) (flagged_bare items)
      ∙ asked_bare o.emit_comments (flagged items))
      ∙ answered_bare o (mark_of h) (asked_items o.emit_comments (flagged items)) t.reader.laid t.fault
  run_by o h (Err f) = refl

  pub run_bare : (o : OptionsData) (h : Here) → run_from o (bare_here keep h) ≡ bare_answer keep (run_from o h)
  run_bare o h = ap (λ (r : Result (List Item × LexState) Fault). r >>= λ x. run_answer o (bare_mark keep (mark_of h))
      (asked_items o.emit_comments (flagged x.0)) x.1.reader.laid x.1.fault) (lex_same o h).is ∙ run_by o h (lex o h)

  pub runs_alike : (o : OptionsData) (g h : Here) → bare_here keep g ≡ bare_here keep h
      → bare_answer keep (run_from o g) ≡ bare_answer keep (run_from o h)
  runs_alike o g h e = sym (run_bare o g) ∙ ap (run_from o) e ∙ run_bare o h
