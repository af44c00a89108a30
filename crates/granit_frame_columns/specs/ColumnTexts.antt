-- Whether the parser's frames have the reader's columns behind each read of a text.
use Rattle.std.specs.Prelude.{ℕ, zero, suc, Bool, true, false, ◌==◌, ◌&&◌, List, [], ◌∷◌, map, length, drop, Result, Ok}
use Rattle.std.specs.Prelude.{Err}
use Rattle.granit_error.specs.OptionsData.{OptionsData}
use Rattle.granit_language.specs.OpenColumns.{columns_of}
use Rattle.granit_lexemes.specs.Here.{Here, mark_of, start_of, text_len}
use Rattle.granit_lexemes.specs.Lexeme.{Item}
use Rattle.granit_lexemes.specs.Outcome.{Fault}
use Rattle.granit_lexemes.specs.PlainEvent.{PlainEvent}
use Rattle.granit_machine.specs.Frames.{ParserState, parser_start}
use Rattle.granit_machine.specs.Laid.{Laid}
use Rattle.granit_machine.specs.Lexing.{FlaggedItem, flagging, flagged, lex}
use Rattle.granit_machine.specs.Machine.{asked_items, feed_all}
use Rattle.granit_machine.specs.Reader.{LexState, read}
use Rattle.granit_machine.specs.ReaderState.{ReaderState, Read, reader_start}
use Rattle.granit_order.specs.FrameColumns.{block_columns, due_column, with_due}

abbrev pub same_numbers : List ℕ → List ℕ → Bool
same_numbers [] [] = true
same_numbers (m ∷ ms) (n ∷ ns) = m == n && same_numbers ms ns
same_numbers ms ns = false

-- the columns agree before these items
abbrev pub agree_before : List FlaggedItem → ParserState → Laid → Bool
agree_before rest p l =
    same_numbers (block_columns p.frames)
    (with_due (due_column l.key (flagging (map (λ (i : FlaggedItem). i.item) rest)).1) (columns_of l))

-- as many items as were read are fed
abbrev pub first_items : List Item → List FlaggedItem → List FlaggedItem
first_items (i ∷ is) (f ∷ fs) = f ∷ first_items is fs
first_items is fs = []

abbrev pub agree_behind : Result (List PlainEvent × ParserState) Fault → List FlaggedItem → Laid → (ParserState → Bool)
    → Bool
agree_behind (Ok x) rest l on = agree_before rest x.1 l && on x.1
agree_behind (Err f) rest l on = true

abbrev pub agree_read : OptionsData → Read → List FlaggedItem → ParserState
    → (ReaderState → List FlaggedItem → ParserState → Bool) → Bool
agree_read o (Ok (items, s)) fs p on =
    agree_behind (feed_all o (asked_items false (first_items items fs)) p) (drop (length items) fs) s.laid
    (on s (drop (length items) fs))
agree_read o (Err f) fs p on = true

-- behind each of at most so many reads
abbrev pub agree_from : OptionsData → ℕ → ReaderState → List FlaggedItem → ParserState → Bool
agree_from o zero s fs p = true
agree_from o (suc n) s [] p = true
agree_from o (suc n) s (f ∷ fs) p = agree_read o (read o s) (f ∷ fs) p (agree_from o n)

abbrev pub agree_lexed : OptionsData → Here → Result (List Item × LexState) Fault → Bool
agree_lexed o h (Ok x) = agree_from o (suc (text_len h)) (reader_start h) (flagged x.0) (parser_start (mark_of h))
agree_lexed o h (Err f) = false

abbrev pub columns_agree : OptionsData → List ℕ → Bool
columns_agree o text = agree_lexed o (start_of text) (lex o (start_of text))

abbrev pub all_columns_agree : OptionsData → List (List ℕ) → Bool
all_columns_agree o [] = true
all_columns_agree o (text ∷ texts) = columns_agree o text && all_columns_agree o texts
