-- What is held of possible keys and of open brackets, said of the lexemes (YAML 1.2.2, 7.4 and 8.2.2).
use Rattle.std.specs.Prelude.{◌≡◌, ℕ, ◌≤◌, true, false, List, [], ◌∷◌, length, Option, Some, None}
use Rattle.std.specs.Bool.{Decides}
use Rattle.granit_language.specs.OpenColumns.{IsOpenColumn, LeavesOpen}
use Rattle.granit_lexemes.specs.Lexeme.{Lexeme}
use Rattle.granit_lexemes.specs.declared.layout.OpenBracket.{OpenBracket}
use Rattle.granit_lexemes.specs.declared.layout.PossibleKey.{PossibleKey}
use Rattle.granit_machine.specs.Laid.{Laid}
use Rattle.granit_before.specs.Tabs.{is_property_kind}

-- ---- lists of the latest lexemes

-- the first lexemes of some, which are told the latest first
pub data EndsIn : (xs ys : List Lexeme) → Type 0 where
  all_of_it : {xs : List Lexeme} → EndsIn xs xs
  behind_one : {x : Lexeme} {xs ys : List Lexeme} → EndsIn xs ys → EndsIn (x ∷ xs) ys

-- properties alone, behind others
pub data PropertiesAlone : (xs rest : List Lexeme) → Type 0 where
  none_yet : {rest : List Lexeme} → PropertiesAlone rest rest
  one_more : {x : Lexeme} {xs rest : List Lexeme} → is_property_kind x.kind ≡ true → PropertiesAlone xs rest →
      PropertiesAlone (x ∷ xs) rest

-- ---- a key

-- a lexeme stands in an open column or left of one, and that stays open
pub record StandsLow (before : List Lexeme) (x : Lexeme) : Type 0 where
  pub column : ℕ
  pub open_there : IsOpenColumn before column
  pub stays : LeavesOpen x column
  pub low : x.start.place.column ≤ column

-- one of the properties behind some lexemes, or the lexeme behind them, stands so
pub record IsLow (xs rest : List Lexeme) : Type 0 where
  pub lexeme : Lexeme
  pub before : List Lexeme
  pub ends : EndsIn xs (lexeme ∷ before)
  pub heads : PropertiesAlone before rest
  pub stands : StandsLow before lexeme

-- a key begins with the lexeme of its number: it must have a `:` where that stands in an open column outside flow
pub record KeySays (xs : List Lexeme) (k : PossibleKey) : Type 0 where
  pub first : Lexeme
  pub rest : List Lexeme
  pub ends : EndsIn xs (first ∷ rest)
  pub number : (k.number ≡ first.number) × (k.number ≡ length rest)
  pub start : k.start ≡ first.start
  pub required :
      Decides k.is_required ((first.in_flow ≡ false) × IsOpenColumn rest first.start.place.column)
  pub low : Decides k.is_low (IsLow xs rest)
  pub head : Decides k.is_head (PropertiesAlone xs rest)

abbrev pub HeldSays : List Lexeme → Option PossibleKey → Type 0
HeldSays xs None = Unit {0}
HeldSays xs (Some k) = KeySays xs k

abbrev pub EachSays : List Lexeme → List (Option PossibleKey) → Type 0
EachSays xs [] = Unit {0}
EachSays xs (k ∷ ks) = HeldSays xs k × EachSays xs ks

-- the key that is possible in each open bracket, the innermost first, and outside all
abbrev pub keys_in : List OpenBracket → Option PossibleKey → List (Option PossibleKey)
keys_in [] key = key ∷ []
keys_in (b ∷ bs) key = b.key ∷ keys_in bs key

abbrev pub keys_of : Laid → List (Option PossibleKey)
keys_of l = keys_in l.brackets l.key
