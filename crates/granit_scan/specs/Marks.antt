-- Tokens that mark where a document starts or ends, or the end of the stream, and where tokens go on behind a boundary.
use Rattle.std.specs.Prelude.{true, false, List, [], ◌∷◌, ◌++◌, Option, Some, None}
use Rattle.granit_base.specs.declared.place.Span.{Span}
use Rattle.granit_lexemes.specs.Comment.{CommentRead}
use Rattle.granit_lexemes.specs.Here.{Here}
use Rattle.granit_lexemes.specs.Lexeme as lexemes
use Rattle.granit_lexemes.specs.Lexeme.{Lexeme, LexemeKind, OfLexeme}
use Rattle.granit_machine.specs.Lexing.{FlaggedItem}
use Rattle.granit_restart.specs.Restart.{behind_fault}
use Rattle.granit_cursor.specs.Tokens.{is_right_placed}
use Rattle.granit_scan.specs.Following.{following_start}
use Rattle.granit_scan.specs.TokenSteps.{TokenState}
use Rattle.granit_scan.specs.TokenViews.{Comment, DocumentEnd, DocumentStart, EndOfStream, PlainToken, TokenKind}
use Rattle.granit_steps.specs.Steps.{StepState, start_from, unflagged}
use Rattle.granit_steps.specs.Told.{parsers_items}

-- ---- marks

abbrev pub mark_kind : TokenKind → Option LexemeKind
mark_kind DocumentStart = Some lexemes.DocumentStart
mark_kind DocumentEnd = Some lexemes.DocumentEnd
mark_kind EndOfStream = Some lexemes.StreamEnd
mark_kind kind = None

abbrev comment_by : TokenKind → Span → Option CommentRead
comment_by (Comment text placement) s =
    Some (record {
      text = text;
      source = record { start = s.start; end = s.end };
      is_right = is_right_placed placement;
    })
comment_by kind s = None

-- the comment that a token is
abbrev pub token_comment : PlainToken → Option CommentRead
token_comment t = comment_by t.kind t.span

-- the comment behind a mark is the token behind it
abbrev pub tail_in : List PlainToken → Option CommentRead
tail_in [] = None
tail_in (t ∷ ts) = token_comment t

-- a mark as a lexeme; no lexeme that is read later has its number
abbrev pub mark_lexeme : LexemeKind → Span → Option CommentRead → Lexeme
mark_lexeme kind s tail = record {
  number = 0;
  kind = kind;
  start = s.start;
  shown = record { start = s.start; end = s.end };
  end = s.end;
  indent = None;
  in_flow = false;
  begins_line = true;
  follows_indicator = false;
  ends_column = false;
  key = None;
  tail = tail;
}

abbrev pub mark_or : Option LexemeKind → Span → List PlainToken → Option Lexeme → Option Lexeme
mark_or None s ts later = later
mark_or (Some kind) s ts later = Some (mark_lexeme kind s (tail_in ts))

-- the first mark among tokens
abbrev pub mark_in : List PlainToken → Option Lexeme
mark_in [] = None
mark_in (t ∷ ts) = mark_or (mark_kind t.kind) t.span ts (mark_in ts)

-- a token that was handed back stands before those that wait
abbrev pub handed : Option PlainToken → List PlainToken
handed None = []
handed (Some t) = t ∷ []

abbrev pub mark_items : Option Lexeme → List FlaggedItem
mark_items None = []
mark_items (Some l) = unflagged (OfLexeme l) ∷ []

-- ---- where tokens go on

-- items are read and wait as the steps have them, before a fault those that may go; a mark that was written is the
-- first of them again
abbrev pub unwritten : List PlainToken → TokenState → StepState
unwritten ts m = record (start_from m.reading.reader.here) {
  reading = m.reading;
  queue = mark_items (mark_in ts) ++ parsers_items m.reading.reader.laid m.reading.fault m.queue;
}

-- nothing is open, and no token waits
abbrev pub tokens_resumed : StepState → TokenState
tokens_resumed s = record { reading = s.reading; queue = s.queue; following = following_start; pending = [] }

-- The next boundary: first among a token that was handed back, the tokens and the items that wait, or else in the text
-- behind where reading stands, or where a read that was refused stopped.
unfoldable pub proceeded : (stop : Here) → Option PlainToken → TokenState → TokenState
proceeded stop t m = tokens_resumed (behind_fault stop (unwritten (handed t ++ m.pending) m)).1
