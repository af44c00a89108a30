-- The lexemes of a text as the grammar sees them, each with whether a simple key begins with it.
use Rattle.std.specs.Prelude.{ℕ, suc, Bool, List, [], ◌∷◌, map, Option, Some, None}
use Rattle.granit_lexemes.specs.Lexeme as lexemes
use Rattle.granit_lexemes.specs.Lexeme.{KeyStart, Item, OfLexeme, OfComment}
use Rattle.granit_machine.specs.Lexing.{FlaggedItem, flagged}
use Rattle.granit_language.specs.Scope.{Scope, no_scope}
use Rattle.granit_language.specs.Terminal.{Anchor, Tag, Alias, Property, Scalar, Open, TerminalKind, Directive}
use Rattle.granit_language.specs.Terminal.{DocumentStart, DocumentEnd, TheEnd, Dash, Question, Comma, Colon, Close}
use Rattle.granit_language.specs.Terminal.{Part, At, Terminal, terminal}

abbrev pub key_number : Option KeyStart → Option ℕ
key_number None = None
key_number (Some k) = Some k.number

abbrev pub terminal_kind : lexemes.LexemeKind → Option KeyStart → TerminalKind
terminal_kind (lexemes.Directive directive) key = Directive directive
terminal_kind lexemes.DocumentStart key = DocumentStart
terminal_kind lexemes.DocumentEnd key = DocumentEnd
terminal_kind lexemes.StreamEnd key = TheEnd
terminal_kind (lexemes.Open bracket) key = Part (Open bracket)
terminal_kind (lexemes.Close bracket) key = Close bracket
terminal_kind lexemes.Comma key = Comma
terminal_kind lexemes.Dash key = Dash
terminal_kind lexemes.Question key = Question
terminal_kind lexemes.Colon key = Colon (key_number key)
terminal_kind (lexemes.Alias name) key = Part (Alias name)
terminal_kind (lexemes.Anchor name) key = Part (Property (Anchor name))
terminal_kind (lexemes.Tag handle suffix) key = Part (Property (Tag handle suffix))
terminal_kind (lexemes.Scalar style text) key = Part (Scalar style text)

-- columns count from 1
abbrev pub indent_of : Option ℕ → Option ℕ
indent_of None = None
indent_of (Some n) = Some (suc n)

abbrev pub at_of : Bool → Scope → lexemes.Lexeme → At
at_of begins_key s l = record {
  start = l.start;
  shown = l.shown;
  end = l.end;
  column = l.start.place.column;
  in_flow = l.in_flow;
  begins_line = l.begins_line;
  follows_indicator = l.follows_indicator;
  number = l.number;
  own_indent = indent_of l.indent;
  begins_key = begins_key;
  scope = s;
}

abbrev pub terminal_of : Bool → Scope → lexemes.Lexeme → Terminal
terminal_of begins_key s l = terminal (terminal_kind l.kind l.key) (at_of begins_key s l)

-- a lexeme and whether a simple key begins with it
abbrev pub Flagged : Type 0
Flagged = lexemes.Lexeme × Bool

abbrev pub terminal_seen : Flagged → Terminal
terminal_seen f = terminal_of f.1 no_scope f.0

-- ---- of items

abbrev pub with_lexeme : Item → Bool → List Flagged → List Flagged
with_lexeme (OfLexeme l) flag fs = (l, flag) ∷ fs
with_lexeme (OfComment c) flag fs = fs

-- the lexemes of flagged items
abbrev pub lexemes_flagged : List FlaggedItem → List Flagged
lexemes_flagged [] = []
lexemes_flagged (i ∷ is) = with_lexeme i.item i.begins_key (lexemes_flagged is)

abbrev pub read_lexemes : List Item → List Flagged
read_lexemes items = lexemes_flagged (flagged items)

-- the lexemes of items as the grammar sees them
abbrev pub terminals_of : List Item → List Terminal
terminals_of items = map terminal_seen (read_lexemes items)
