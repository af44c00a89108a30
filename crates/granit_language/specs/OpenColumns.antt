-- The open columns of block collections, said of the lexemes before a place (YAML 1.2.2, 8.2).
use Rattle.std.specs.Prelude.{◌≡◌, ℕ, ◌==◌, Bool, true, false, nat_lt, if◌then◌else◌, List, [], ◌∷◌, ◌⊎◌, map, Option}
use Rattle.std.specs.Prelude.{Some, None}
use Rattle.granit_lexemes.specs.Lexeme.{LexemeKind, Directive, DocumentStart, DocumentEnd, StreamEnd, Dash, Question}
use Rattle.granit_lexemes.specs.Lexeme.{Colon, KeyStart, Lexeme, Item, OfLexeme, OfComment}
use Rattle.granit_machine.specs.Laid.{Laid}
use Rattle.granit_lexemes.specs.declared.layout.OpenColumn.{OpenColumn}

-- the lexemes of items, the latest first
abbrev pub latest : List Item → List Lexeme → List Lexeme
latest [] xs = xs
latest (OfLexeme x ∷ is) xs = latest is (x ∷ xs)
latest (OfComment c ∷ is) xs = latest is xs

-- the column in which the lexeme of a number begins
abbrev pub start_column : ℕ → List Lexeme → Option ℕ
start_column n [] = None
start_column n (x ∷ xs) = if x.number == n then Some x.start.place.column else start_column n xs

-- in which column a `-`, a `?`, a keyless `:`, or the key of a `:` stands
abbrev pub EntryOf : LexemeKind → Option KeyStart → (column : ℕ) → List Lexeme → ℕ → Type 0
EntryOf Dash key column xs c = column ≡ c
EntryOf Question key column xs c = column ≡ c
EntryOf Colon None column xs c = column ≡ c
EntryOf Colon (Some k) column xs c = start_column k.number xs ≡ Some c
EntryOf kind key column xs c = ⊥

-- an entry of a block collection
abbrev pub IsEntry : Lexeme → List Lexeme → ℕ → Type 0
IsEntry x xs c = (x.in_flow ≡ false) × EntryOf x.kind x.key x.start.place.column xs c

abbrev pub is_outer_kind : LexemeKind → Bool
is_outer_kind (Directive d) = true
is_outer_kind DocumentStart = true
is_outer_kind DocumentEnd = true
is_outer_kind StreamEnd = true
is_outer_kind kind = false

-- outside flow it neither ends the document nor stands left of a column
abbrev pub LeavesOpen : Lexeme → ℕ → Type 0
LeavesOpen x c = x.in_flow ≡ false → (is_outer_kind x.kind ≡ false) × (nat_lt x.start.place.column c ≡ false)

-- an entry outside flow stands in a column, and no lexeme outside flow after it in the document stands left of it
abbrev pub IsOpenColumn : List Lexeme → ℕ → Type 0
IsOpenColumn [] c = ⊥
IsOpenColumn (x ∷ xs) c = IsEntry x xs c ⊎ (LeavesOpen x c × IsOpenColumn xs c)

abbrev pub Has : ℕ → List ℕ → Type 0
Has c [] = ⊥
Has c (n ∷ ns) = (n ≡ c) ⊎ Has c ns

abbrev pub AtMost : ℕ → List ℕ → Type 0
AtMost c [] = Unit {0}
AtMost c (n ∷ ns) = (nat_lt c n ≡ false) × AtMost c ns

abbrev pub Falls : List ℕ → Type 0
Falls [] = Unit {0}
Falls (n ∷ ns) = AtMost n ns × Falls ns

abbrev pub columns_of : Laid → List ℕ
columns_of l = map (λ (x : OpenColumn). x.column) l.columns

-- the columns that are kept are the open ones, the greatest first
pub record ColumnsSay (xs : List Lexeme) (l : Laid) : Type 0 where
  pub are_open : (c : ℕ) → Has c (columns_of l) → IsOpenColumn xs c
  pub are_kept : (c : ℕ) → IsOpenColumn xs c → Has c (columns_of l)
  pub fall : Falls (columns_of l)
