-- What flagged lexemes fit: each keyed `:` names the last lexeme at its depth that begins a simple key, keys nest, and
-- what begins an entry of a block collection begins its line or follows an indicator (YAML 1.2.2, 7.4.2, 8.2).
use Rattle.std.specs.Prelude.{◌≡◌, ℕ, ◌==◌, Bool, true, false, ◌||◌, not, List, [], ◌∷◌, Option, Some, None}
use Rattle.granit_lexemes.specs.Lexeme.{LexemeKind, Open, Close, Dash, Question, Colon, Alias, Anchor, Tag, Scalar}
use Rattle.granit_lexemes.specs.Lexeme.{KeyStart, Lexeme, Item, OfLexeme, OfComment}
use Rattle.granit_machine.specs.Lexing.{FlaggedItem}

-- what a lexeme is to the keys around it
pub data Role : Type 0 where
  -- a property, an alias or a scalar; a bracket that opens, and one that closes
  OfNode Opens Closes : Role
  -- a `:` with its key
  Keyed : (number : ℕ) → Role
  Other : Role

abbrev pub colon_role : Option KeyStart → Role
colon_role None = Other
colon_role (Some k) = Keyed k.number

abbrev pub role_of : LexemeKind → Option KeyStart → Role
role_of (Open bracket) key = Opens
role_of (Close bracket) key = Closes
role_of Colon key = colon_role key
role_of (Alias name) key = OfNode
role_of (Anchor name) key = OfNode
role_of (Tag handle suffix) key = OfNode
role_of (Scalar style text) key = OfNode
role_of kind key = Other

-- ---- keys: at each bracket depth, the innermost first, the last lexeme that begins a key whose `:` must come

abbrev pub with_inner_key : Bool → ℕ → List (Option ℕ) → List (Option ℕ)
with_inner_key true n (k ∷ ks) = Some n ∷ ks
with_inner_key b n ks = ks

abbrev pub outer_keys : List (Option ℕ) → List (Option ℕ)
outer_keys [] = []
outer_keys (k ∷ ks) = ks

abbrev pub without_inner_key : List (Option ℕ) → List (Option ℕ)
without_inner_key [] = []
without_inner_key (k ∷ ks) = None ∷ ks

abbrev pub keys_behind : Role → Bool → ℕ → List (Option ℕ) → List (Option ℕ)
keys_behind OfNode flag n ks = with_inner_key flag n ks
keys_behind Opens flag n ks = None ∷ with_inner_key flag n ks
keys_behind Closes flag n ks = outer_keys ks
keys_behind (Keyed m) flag n ks = without_inner_key ks
keys_behind Other flag n ks = ks

abbrev pub is_inner_key : ℕ → List (Option ℕ) → Bool
is_inner_key n (Some m ∷ ks) = n == m
is_inner_key n ks = false

abbrev pub role_fits : Role → List (Option ℕ) → Bool
role_fits (Keyed n) ks = is_inner_key n ks
role_fits role ks = true

abbrev pub item_fits : Item → List (Option ℕ) → Bool
item_fits (OfLexeme x) ks = role_fits (role_of x.kind x.key) ks
item_fits (OfComment c) ks = true

abbrev pub behind_item : Item → Bool → List (Option ℕ) → List (Option ℕ)
behind_item (OfLexeme x) flag ks = keys_behind (role_of x.kind x.key) flag x.number ks
behind_item (OfComment c) flag ks = ks

-- each `:` names the last lexeme at its depth that begins a simple key
abbrev pub ItemKeysFit : List (Option ℕ) → List FlaggedItem → Type 0
ItemKeysFit ks [] = Unit {0}
ItemKeysFit ks (i ∷ is) = (item_fits i.item ks ≡ true) × ItemKeysFit (behind_item i.item i.begins_key ks) is

-- ---- lines

-- whether a lexeme begins an entry of a block collection
abbrev pub begins_block_entry : Role → LexemeKind → Bool → Bool
begins_block_entry OfNode kind flag = flag
begins_block_entry Opens kind flag = flag
begins_block_entry Other Dash flag = true
begins_block_entry Other Question flag = true
begins_block_entry Other Colon flag = true
begins_block_entry role kind flag = false

abbrev pub stands_as_entry : Lexeme → Bool → Bool
stands_as_entry x flag =
    x.in_flow || (not (begins_block_entry (role_of x.kind x.key) x.kind flag) || (x.begins_line || x.follows_indicator))

abbrev pub item_stands : Item → Bool → Bool
item_stands (OfLexeme x) flag = stands_as_entry x flag
item_stands (OfComment c) flag = true

-- outside flow it begins its line or directly follows an indicator
abbrev pub ItemLinesFit : List FlaggedItem → Type 0
ItemLinesFit [] = Unit {0}
ItemLinesFit (i ∷ is) = (item_stands i.item i.begins_key ≡ true) × ItemLinesFit is
