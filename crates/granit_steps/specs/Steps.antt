-- The machine a step at a time: one event, or a fault, for each call, from no more of the text than it takes.
use Rattle.std.specs.Prelude.{ℕ, suc, ◌+◌, ◌*◌, Bool, true, false, ◌==◌, ◌&&◌, ◌||◌, not, List, [], ◌∷◌, ◌++◌, length}
use Rattle.std.specs.Prelude.{map, Option, Some, None, is_some, Result, Ok, Err}
use Rattle.std.specs.List.{filter}
use Rattle.granit_error.specs.OptionsData.{OptionsData}
use Rattle.granit_lexemes.specs.Comment.{CommentRead}
use Rattle.granit_lexemes.specs.Here.{Here, text_len, mark_of, start_of}
use Rattle.granit_lexemes.specs.Lexeme.{KeyStart, Item, OfLexeme, OfComment}
use Rattle.granit_lexemes.specs.Outcome.{Fault, ◌>>=◌}
use Rattle.granit_lexemes.specs.Pieces.{pieces}
use Rattle.granit_lexemes.specs.PlainEvent.{PlainEvent, event_on, StreamStart}
use Rattle.granit_machine.specs.Frames.{ParserState, parser_start}
use Rattle.granit_machine.specs.Laid.{Laid}
use Rattle.granit_machine.specs.Lexing.{FlaggedItem, lex_start}
use Rattle.granit_machine.specs.Machine.{without_tail, is_lexeme, is_settled, settled}
use Rattle.granit_machine.specs.Parser.{next_line, feed}
use Rattle.granit_machine.specs.Reader.{LexState, lex_turn}

-- where reading stands and whether it is over, the items that were read and not fed, where the parser stands, and the
-- events that weren't given yet
pub record StepState : Type 0 where
  pub reading : LexState
  pub queue : List FlaggedItem
  pub parser : ParserState
  pub pending : List PlainEvent

-- ---- the queue

-- comments that aren't asked for never come into the queue
abbrev pub incoming : Bool → List Item → List Item
incoming true items = items
incoming false items = map without_tail (filter is_lexeme items)

-- whether a `:` with a key's number finds that key's first lexeme in an item
abbrev pub is_key_at : Option KeyStart → Item → Bool
is_key_at None j = false
is_key_at (Some k) (OfLexeme l) = k.number == l.number
is_key_at (Some k) (OfComment c) = false

abbrev pub key_of_item : Item → Option KeyStart
key_of_item (OfLexeme l) = l.key
key_of_item (OfComment c) = None

abbrev pub marked_by : Item → FlaggedItem → FlaggedItem
marked_by i f = record { item = f.item; begins_key = f.begins_key || is_key_at (key_of_item i) f.item }

abbrev pub unflagged : Item → FlaggedItem
unflagged i = record { item = i; begins_key = false }

-- items come into the queue one by one, and each `:` flags the lexeme that begins its key
abbrev pub pushed : List FlaggedItem → List Item → List FlaggedItem
pushed q [] = q
pushed q (i ∷ is) = pushed (map (marked_by i) q ++ unflagged i ∷ []) is

-- ---- what may be released

-- whether the place of a comment depends on what comes behind it
abbrev pub is_open_comment : Option CommentRead → Bool
is_open_comment None = false
is_open_comment (Some c) = not c.is_right

abbrev pub asks_next : Item → Bool
asks_next (OfLexeme l) = is_open_comment l.tail
asks_next (OfComment c) = not c.is_right

-- whether the next item is known with its flag
abbrev pub is_next_settled : Laid → List FlaggedItem → Bool
is_next_settled l [] = false
is_next_settled l (i ∷ is) = is_settled l i.item

abbrev pub is_over : LexState → Bool
is_over l = l.ended || is_some l.fault

-- whether the parser may have the front of the queue
abbrev pub may_go : LexState → FlaggedItem → List FlaggedItem → Bool
may_go l i is =
    l.ended
    || (is_settled l.reader.laid i.item
    && (is_some l.fault || (not (asks_next i.item) || is_next_settled l.reader.laid is)))

-- the items that a parser may have, where all may go at the end
abbrev pub free_items : Bool → Laid → List FlaggedItem → List FlaggedItem
free_items true l is = is
free_items false l is = settled l is

-- the line of what stands behind the front, where it is known
abbrev pub line_behind : LexState → List FlaggedItem → Option ℕ
line_behind l is = next_line (free_items l.ended l.reader.laid is)

-- ---- one turn: the front is fed, or one more read is made

abbrev pub Turn : Type 0
Turn = Result (Option (List PlainEvent) × StepState) Fault

abbrev pub items_or_none : Option (List Item) → List Item
items_or_none None = []
items_or_none (Some items) = items

abbrev pub with_read : OptionsData → StepState → Option (List Item) × LexState → StepState
with_read o s x = record s { reading = x.1; queue = pushed s.queue (incoming o.emit_comments (items_or_none x.0)) }

abbrev pub read_unless : OptionsData → Option Fault → StepState → Turn
read_unless o (Some f) s = Err f
read_unless o None s = lex_turn o s.reading >>= λ x. Ok (Some [], with_read o s x)

-- at the end nothing is left to do, and behind a fault nothing may go any more
abbrev pub read_more : OptionsData → Bool → StepState → Turn
read_more o true s = Ok (None, s)
read_more o false s = read_unless o s.reading.fault s

abbrev pub with_fed : StepState → List FlaggedItem → List PlainEvent × ParserState → StepState
with_fed s is x = record s { queue = is; parser = x.1; pending = x.0 }

abbrev pub feed_front : OptionsData → FlaggedItem → List FlaggedItem → StepState → Turn
feed_front o i is s = feed o i (line_behind s.reading is) s.parser >>= λ x. Ok (Some [], with_fed s is x)

abbrev pub front_turn : Bool → OptionsData → FlaggedItem → List FlaggedItem → StepState → Turn
front_turn true o i is s = feed_front o i is s
front_turn false o i is s = read_more o s.reading.ended s

abbrev pub turn_by : OptionsData → List PlainEvent → List FlaggedItem → StepState → Turn
turn_by o (e ∷ es) q s = Ok (None, s)
turn_by o [] [] s = read_more o s.reading.ended s
turn_by o [] (i ∷ is) s = front_turn (may_go s.reading i is) o i is s

-- what the loop does until an event is there, or nothing is left
unfoldable pub step_turn : OptionsData → StepState → Turn
step_turn o s = turn_by o s.pending s.queue s

abbrev pub reading_size_by : Bool → LexState → ℕ
reading_size_by true l = 0
reading_size_by false l = suc (text_len l.reader.here)

-- how much may still be read
abbrev pub reading_size : LexState → ℕ
reading_size l = reading_size_by (is_over l) l

-- a read brings two items at most
abbrev pub step_size : StepState → ℕ
step_size s = 3 * reading_size s.reading + length s.queue

-- ---- one event

abbrev pub first_pending : List PlainEvent → StepState → Option PlainEvent × StepState
first_pending [] s = (None, s)
first_pending (e ∷ es) s = (Some e, record s { pending = es })

abbrev pub settle : OptionsData → StepState → Result (List PlainEvent × StepState) Fault
settle o s = pieces step_size (step_turn o) s

-- the next event, None behind the last one, or the fault that comes instead
unfoldable pub next_event : OptionsData → StepState → Result (Option PlainEvent × StepState) Fault
next_event o s = settle o s >>= λ x. Ok (first_pending x.1.pending x.1)

abbrev pub start_from : Here → StepState
start_from h =
    record {
      reading = lex_start h;
      queue = [];
      parser = parser_start (mark_of h);
      pending = event_on StreamStart (mark_of h) ∷ [];
    }

abbrev pub steps_start : List ℕ → StepState
steps_start text = start_from (start_of text)
