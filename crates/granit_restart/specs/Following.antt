-- Whether another document is there, and how many comments are kept before that is known.
use Rattle.std.specs.Prelude.{ℕ, zero, suc, Bool, true, false, not, if◌then◌else◌, List, [], ◌∷◌, map, Option, Some}
use Rattle.std.specs.Prelude.{None, Result, Ok, Err}
use Rattle.granit_base.specs.Place.{Mark}
use Rattle.granit_error.specs.FaultKind.{TooManyComments}
use Rattle.granit_error.specs.OptionsData.{OptionsData}
use Rattle.granit_lexemes.specs.Basics.{fails_at}
use Rattle.granit_lexemes.specs.Comment.{CommentRead}
use Rattle.granit_lexemes.specs.Here.{text_len}
use Rattle.granit_lexemes.specs.Lexeme as lexemes
use Rattle.granit_lexemes.specs.Lexeme.{LexemeKind, Item, OfLexeme, OfComment}
use Rattle.granit_lexemes.specs.Outcome.{Fault}
use Rattle.granit_lexemes.specs.PlainEvent.{PlainEvent, EventKind, StreamEnd, Comment}
use Rattle.granit_machine.specs.Lexing.{FlaggedItem}
use Rattle.granit_machine.specs.Reader.{LexState, LexTurn, lex_turn}
use Rattle.granit_restart.specs.Header.{is_directives}
use Rattle.granit_steps.specs.Steps.{StepState, incoming}

-- one more comment is kept, where so many more may be
abbrev pub one_kept : ℕ → Mark → (ℕ → Result Bool Fault) → Result Bool Fault
one_kept zero m more = fails_at TooManyComments m
one_kept (suc room) m more = more room

abbrev pub past_event : ℕ → EventKind → Mark → (ℕ → Result Bool Fault) → Result Bool Fault
past_event room (Comment text placement) m more = one_kept room m more
past_event room StreamEnd m more = Ok false
past_event room kind m more = Ok true

abbrev pub past_events : ℕ → List PlainEvent → (ℕ → Result Bool Fault) → Result Bool Fault
past_events room [] more = more room
past_events room (e ∷ es) more = past_event room e.kind e.span.start (λ left. past_events left es more)

abbrev pub past_tail : ℕ → Option CommentRead → (ℕ → Result Bool Fault) → Result Bool Fault
past_tail room None more = more room
past_tail room (Some c) more = one_kept room c.source.start more

abbrev pub past_lexeme : ℕ → LexemeKind → Option CommentRead → (ℕ → Result Bool Fault) → Result Bool Fault
past_lexeme room lexemes.DocumentEnd tail more = past_tail room tail more
past_lexeme room lexemes.StreamEnd tail more = Ok false
past_lexeme room kind tail more = Ok true

abbrev pub past_items : ℕ → List Item → (ℕ → Result Bool Fault) → Result Bool Fault
past_items room [] more = more room
past_items room (OfComment c ∷ is) more = one_kept room c.source.start (λ left. past_items left is more)
past_items room (OfLexeme l ∷ is) more = past_lexeme room l.kind l.tail (λ left. past_items left is more)

abbrev pub past_read : OptionsData → (LexState → ℕ → Result Bool Fault) → ℕ → LexTurn → Result Bool Fault
past_read o later room (Ok (Some is, after)) =
    past_items room (incoming o.emit_comments is) (λ left. later after left)
past_read o later room (Ok (None, after)) = Ok (not after.ended)
past_read o later room (Err f) = Ok true

abbrev pub past_reads : OptionsData → ℕ → LexState → ℕ → Result Bool Fault
past_reads o zero s room = Ok true
past_reads o (suc n) s room = past_read o (past_reads o n) room (lex_turn o s)

abbrev pub past_reading : OptionsData → LexState → Option Fault → ℕ → Result Bool Fault
past_reading o s None room = past_reads o (suc (suc (text_len s.reader.here))) s room
past_reading o s (Some f) room = Ok true

abbrev pub item_without_flag : FlaggedItem → Item
item_without_flag i = i.item

-- whether anything but comments, `...` and the end comes next, where so many comments may be kept
unfoldable pub document_follows : OptionsData → ℕ → StepState → Result Bool Fault
document_follows o room s =
    past_events room s.pending (λ left.
    if is_directives s.parser.stage then Ok true
    else past_items left (map item_without_flag s.queue) (λ rest. past_reading o s.reading s.reading.fault rest))
