-- The plain machine of the whole language: the events of a finished text, or its first fault.
use Rattle.std.specs.Prelude.{ℕ, Bool, true, false, not, List, [], ◌∷◌, map, Option, Some, None, Result, Ok, Err}
use Rattle.std.specs.List.{filter}
use Rattle.granit_base.specs.Place.{Mark}
use Rattle.granit_error.specs.OptionsData.{OptionsData}
use Rattle.granit_lexemes.specs.Here.{Here, mark_of, start_of}
use Rattle.granit_lexemes.specs.Outcome.{Fault, ◌>>=◌}
use Rattle.granit_lexemes.specs.Pieces.{with_front}
use Rattle.granit_lexemes.specs.PlainEvent.{PlainEvent, event_on, StreamStart}
use Rattle.granit_machine.specs.Frames.{ParserState, parser_start}
use Rattle.granit_lexemes.specs.Lexeme.{Item, OfLexeme, OfComment}
use Rattle.granit_machine.specs.Laid.{Laid}
use Rattle.granit_machine.specs.Lexing.{FlaggedItem, flagged, lex}
use Rattle.granit_machine.specs.Parser.{next_line, feed}
use Rattle.granit_machine.specs.PossibleKeys.{is_possible}

-- ---- comments that aren't asked for

abbrev pub without_tail : Item → Item
without_tail (OfLexeme l) = OfLexeme (record l { tail = None })
without_tail (OfComment c) = OfComment c

abbrev pub is_lexeme : Item → Bool
is_lexeme (OfLexeme l) = true
is_lexeme (OfComment c) = false

abbrev pub untailed : FlaggedItem → FlaggedItem
untailed i = record { item = without_tail i.item; begins_key = i.begins_key }

abbrev pub asked_items : Bool → List FlaggedItem → List FlaggedItem
asked_items true items = items
asked_items false items = map untailed (filter (λ i. is_lexeme i.item) items)

-- ---- feeding

abbrev pub feed_all : OptionsData → List FlaggedItem → ParserState → Result (List PlainEvent × ParserState) Fault
feed_all o [] p = Ok ([], p)
feed_all o (i ∷ is) p = feed o i (next_line is) p >>= λ x. with_front x.0 (feed_all o is x.1)

-- whether the parser may have an item: a simple key can no longer begin with it
abbrev pub is_settled : Laid → Item → Bool
is_settled l (OfLexeme x) = not (is_possible x.number l)
is_settled l (OfComment c) = true

abbrev pub front_if : Bool → FlaggedItem → List FlaggedItem → List FlaggedItem
front_if true i items = i ∷ items
front_if false i items = []

-- the items before the oldest possible key
abbrev pub settled : Laid → List FlaggedItem → List FlaggedItem
settled l [] = []
settled l (i ∷ is) = front_if (is_settled l i.item) i (settled l is)

-- ---- the answer

-- reading went up to the end, or to a fault that the parser's come before, where it finds one in what it may have
abbrev pub run_answer : OptionsData → Mark → List FlaggedItem → Laid → Option Fault → Result (List PlainEvent) Fault
run_answer o m items l None = feed_all o items (parser_start m) >>= λ x. Ok (event_on StreamStart m ∷ x.0)
run_answer o m items l (Some f) = feed_all o (settled l items) (parser_start m) >>= λ x. Err f

abbrev pub run_from : OptionsData → Here → Result (List PlainEvent) Fault
run_from o h =
    lex o h >>= λ x. run_answer o (mark_of h) (asked_items o.emit_comments (flagged x.0)) x.1.reader.laid x.1.fault

-- the events of a string, or its first fault
abbrev pub run : OptionsData → List ℕ → Result (List PlainEvent) Fault
run o text = run_from o (start_of text)
