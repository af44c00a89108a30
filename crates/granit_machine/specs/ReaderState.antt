-- The plain machine's reader: where it stands, and what the lexemes so far left.
use Rattle.std.specs.Prelude.{Bool, ◌||◌, List, [], ◌∷◌, Option, Some, None, Result, Ok}
use Rattle.granit_base.specs.Place.{Mark}
use Rattle.granit_error.specs.FaultKind.{UnclosedFlowCollection, UnexpectedCharacter}
use Rattle.granit_lexemes.specs.Basics.{fails_at}
use Rattle.granit_lexemes.specs.Comment.{CommentRead}
use Rattle.granit_lexemes.specs.Here.{Here, next_char, mark_of, step}
use Rattle.granit_lexemes.specs.Lexeme.{opener_char, LexemeKind, Lexeme, Item, OfLexeme}
use Rattle.granit_lexemes.specs.Outcome.{Fault, ◌>>=◌}
use Rattle.granit_lexemes.specs.Tail.{tail_at}
use Rattle.granit_machine.specs.Laid.{Laid, laid_start, behind_lexeme, is_dash, is_indicator, is_in_flow}
use Rattle.granit_lexemes.specs.declared.layout.LastLexeme.{LastLexeme}
use Rattle.granit_lexemes.specs.declared.layout.LastLexeme.TheVariants.{Adjacent, Another}
use Rattle.granit_lexemes.specs.declared.layout.OpenBracket.{OpenBracket}

pub record ReaderState : Type 0 where
  pub here : Here
  pub laid : Laid

abbrev pub reader_start : Here → ReaderState
reader_start h = record { here = h; laid = laid_start }

-- what a read gives: items, and the state behind them
abbrev pub Read : Type 0
Read = Result (List Item × ReaderState) Fault

-- ---- what all lexemes share

-- the lexeme that begins here and ends at a mark; whether it ends a column is told
abbrev pub lexeme_to : Bool → LexemeKind → Mark → Here → Laid → Lexeme
lexeme_to ends kind to h l = record {
  number = l.number;
  kind = kind;
  start = mark_of h;
  shown = record { start = mark_of h; end = to };
  end = to;
  indent = None;
  in_flow = is_in_flow l;
  begins_line = h.begins_line;
  follows_indicator = is_dash l.last || is_indicator l.last;
  ends_column = ends;
  key = None;
  tail = None;
}

-- a lexeme of one character
abbrev pub sign_lexeme : Bool → LexemeKind → Here → Laid → Lexeme
sign_lexeme ends kind h l = lexeme_to ends kind (mark_of (step h)) h l

abbrev pub with_tail : Lexeme → Option CommentRead → Lexeme
with_tail x tail = record x { tail = tail }

-- a lexeme is read up to here, and this is left
abbrev pub read_to : Lexeme → Here → Laid → Read
read_to x h l = Ok (OfLexeme x ∷ [], record { here = h; laid = l })

-- the same, counted, with what it lets the next one be
abbrev pub given : Lexeme → LastLexeme → Here → Laid → Read
given x last h l = read_to x h (behind_lexeme last l)

-- behind a closer a value may stand at once, unless a comment does
abbrev pub behind_tail : LastLexeme → Option CommentRead → LastLexeme
behind_tail Adjacent (Some c) = Another
behind_tail last tail = last

abbrev pub tailed_by : Lexeme → LastLexeme → Laid → Option CommentRead → Here → Read
tailed_by x last l tail h = given (with_tail x tail) (behind_tail last tail) h l

-- a lexeme that ends there, with its tail
unfoldable pub tailed : Lexeme → LastLexeme → (end : Here) → Laid → Read
tailed x last end l = tail_at end >>= λ y. tailed_by x last l y.0 y.1

-- no bracket may be open
abbrev pub refuse_open : List OpenBracket → Result (Unit {0}) Fault
refuse_open [] = Ok tt
refuse_open (b ∷ bs) = fails_at (UnclosedFlowCollection (opener_char b.bracket)) b.mark

abbrev pub unexpected : {Y : Type 0} → Here → Result Y Fault
unexpected h = fails_at (UnexpectedCharacter (next_char h)) (mark_of h)
