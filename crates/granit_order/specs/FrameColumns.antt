-- The columns of the parser's block collections, and the open columns of the reader (YAML 1.2.2, 8.2).
use Rattle.std.specs.Prelude.{ℕ, Bool, true, false, ◌==◌, ◌||◌, List, [], ◌∷◌, Option, Some, None}
use Rattle.granit_language.specs.Scope.{Scope}
use Rattle.granit_language.specs.Scoping.{next_scope}
use Rattle.granit_language.specs.Seen.{Flagged, terminal_of}
use Rattle.granit_lexemes.specs.Lexeme.{Item}
use Rattle.granit_lexemes.specs.declared.layout.Bracket.{Bracket}
use Rattle.granit_lexemes.specs.declared.layout.PossibleKey.{PossibleKey}
use Rattle.granit_machine.specs.Frames.{Frame, BlockSequence, BlockMapping}
use Rattle.granit_machine.specs.Lexing.{FlaggedItem, Flagging, flag_item}
use Rattle.granit_order.specs.Order.{open_behind, due_behind}

-- the columns of the block collections that aren't finished, the innermost first; a sequence in the column of its
-- mapping has none of its own (8.2.3)
abbrev pub block_columns : List Frame → List ℕ
block_columns [] = []
block_columns (BlockSequence column false ∷ fs) = column ∷ block_columns fs
block_columns (BlockSequence column true ∷ fs) = block_columns fs
block_columns (BlockMapping column stage ∷ fs) = column ∷ block_columns fs
block_columns (f ∷ fs) = block_columns fs

-- the column of the possible key, where a later `:` is to name it
abbrev pub column_if : Bool → ℕ → Option ℕ
column_if true column = Some column
column_if false column = None

abbrev pub is_named : ℕ → List ℕ → Bool
is_named number [] = false
is_named number (n ∷ ns) = n == number || is_named number ns

abbrev pub due_column : Option PossibleKey → List ℕ → Option ℕ
due_column None named = None
due_column (Some k) named = column_if (is_named k.number named) k.start.place.column

-- a column in front, unless it is the innermost one
abbrev pub other_columns : Bool → ℕ → List ℕ → List ℕ
other_columns true n ns = ns
other_columns false n ns = n ∷ ns

abbrev pub beside_column : ℕ → List ℕ → List ℕ
beside_column column [] = []
beside_column column (n ∷ ns) = other_columns (n == column) n ns

-- with the column of the mapping whose simple key waits for its `:`
abbrev pub with_due : Option ℕ → List ℕ → List ℕ
with_due None columns = columns
with_due (Some column) columns = column ∷ beside_column column columns

-- ---- items that others follow

-- flagged items in front of flagged ones
abbrev pub flag_before : List Item → Flagging → Flagging
flag_before [] y = y
flag_before (i ∷ is) y = flag_item i (flag_before is y)

-- items as they are flagged where these numbers are of keys whose `:` comes behind them
abbrev pub flagged_before : List Item → List ℕ → List FlaggedItem
flagged_before items named = (flag_before items ([], named)).0

-- the column, counted from 1, of the simple key that is due behind lexemes
abbrev pub due_along : List Flagged → Scope → List Bracket → Option ℕ → Option ℕ
due_along [] s bs due = due
due_along (f ∷ fs) s bs due =
    due_along fs (next_scope (terminal_of f.1 s f.0).kind s) (open_behind (terminal_of f.1 s f.0).kind bs)
    (due_behind bs (terminal_of f.1 s f.0).kind (terminal_of f.1 s f.0).at due)
