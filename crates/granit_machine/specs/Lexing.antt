-- All that can be read of a text, and which lexemes begin simple keys.
use Rattle.std.specs.Prelude.{ℕ, Bool, true, false, ◌==◌, List, [], ◌∷◌, Option, Some, None, Result}
use Rattle.granit_error.specs.OptionsData.{OptionsData}
use Rattle.granit_lexemes.specs.Here.{Here}
use Rattle.granit_lexemes.specs.Outcome.{Fault}
use Rattle.granit_lexemes.specs.Pieces.{pieces}
use Rattle.granit_lexemes.specs.Lexeme.{KeyStart, Lexeme, Item, OfLexeme, OfComment}
use Rattle.granit_machine.specs.Reader.{LexState, lex_turn, lex_len}
use Rattle.granit_machine.specs.ReaderState.{reader_start}

-- an item, and whether a simple key begins with it
pub record FlaggedItem : Type 0 where
  pub item : Item
  pub begins_key : Bool

-- flagged items, and the numbers of the lexemes before them that begin keys, the nearest first
abbrev pub Flagging : Type 0
Flagging = List FlaggedItem × List ℕ

abbrev pub is_nearest : ℕ → List ℕ → Bool
is_nearest number [] = false
is_nearest number (n ∷ ns) = n == number

abbrev pub others : List ℕ → List ℕ
others [] = []
others (n ∷ ns) = ns

abbrev pub and_key : Option KeyStart → List ℕ → List ℕ
and_key None ns = ns
and_key (Some k) ns = k.number ∷ ns

abbrev pub flag_lexeme : Bool → Lexeme → Flagging → Flagging
flag_lexeme true l x = (record { item = OfLexeme l; begins_key = true } ∷ x.0, and_key l.key (others x.1))
flag_lexeme false l x = (record { item = OfLexeme l; begins_key = false } ∷ x.0, and_key l.key x.1)

abbrev pub flag_item : Item → Flagging → Flagging
flag_item (OfComment c) x = (record { item = OfComment c; begins_key = false } ∷ x.0, x.1)
flag_item (OfLexeme l) x = flag_lexeme (is_nearest l.number x.1) l x

abbrev pub flagging : List Item → Flagging
flagging [] = ([], [])
flagging (i ∷ is) = flag_item i (flagging is)

-- the items with their flags
abbrev pub flagged : List Item → List FlaggedItem
flagged items = (flagging items).0

abbrev pub lex_start : Here → LexState
lex_start h = record { reader = reader_start h; ended = false; fault = None }

-- the items of a text as far as reading goes, and the state where it ended
abbrev pub lex : OptionsData → Here → Result (List Item × LexState) Fault
lex o h = pieces lex_len (lex_turn o) (lex_start h)
