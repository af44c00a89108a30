-- With which lexemes simple keys begin, said of the lexemes (YAML 1.2.2, 7.4.2 and 8.2.2).
use Rattle.std.specs.Prelude.{◌≡◌, ℕ, Bool, false, List, [], ◌∷◌, ◌⊎◌, map, length}
use Rattle.std.specs.Bool.{Decides}
use Rattle.granit_error.specs.OptionsData.{OptionsData}
use Rattle.granit_language.specs.KeyRuns.{Run, MayBeKey, too_far}
use Rattle.granit_language.specs.OpenColumns.{latest}
use Rattle.granit_lexemes.specs.Lexeme.{Colon, Lexeme, Item, OfLexeme, OfComment}
use Rattle.granit_machine.specs.Lexing.{FlaggedItem}

-- each bears how many stand before it; the latest first
abbrev pub AllNumbered : List Lexeme → Type 0
AllNumbered [] = Unit {0}
AllNumbered (x ∷ xs) = (x.number ≡ length xs) × AllNumbered xs

-- A `:` behind these lexemes, the latest first, has the run before it as its key, and the run begins with a lexeme.
pub record HasKeyOf (o : OptionsData) (text : List ℕ) (x : Lexeme) (before zs : List Lexeme) (y : Lexeme) :
    Type 0 where
  pub colon : y.kind ≡ Colon
  pub run : Run zs x before
  pub begins : MayBeKey text y.in_flow x before
  pub near : too_far o y.in_flow x.start y.start ≡ false

-- one of these items is such a `:`
abbrev pub KeyOfOne : OptionsData → (text : List ℕ) → Lexeme → (before zs : List Lexeme) → List Item → Type 0
KeyOfOne o text x before zs [] = ⊥
KeyOfOne o text x before zs (OfLexeme y ∷ is) =
    HasKeyOf o text x before zs y ⊎ KeyOfOne o text x before (y ∷ zs) is
KeyOfOne o text x before zs (OfComment c ∷ is) = KeyOfOne o text x before zs is

-- a simple key begins with a lexeme, behind these and in front of those items
abbrev pub BeginsKey : OptionsData → (text : List ℕ) → List Lexeme → Lexeme → List Item → Type 0
BeginsKey o text before x more = KeyOfOne o text x before (x ∷ before) more

abbrev pub items_of : List FlaggedItem → List Item
items_of fs = map (λ (i : FlaggedItem). i.item) fs

abbrev pub FlagSays : OptionsData → (text : List ℕ) → List Lexeme → Item → Bool → List Item → Type 0
FlagSays o text before (OfLexeme x) flag more = Decides flag (BeginsKey o text before x more)
FlagSays o text before (OfComment c) flag more = flag ≡ false

-- each flag of some items of a text, behind these lexemes
abbrev pub FlagsSay : OptionsData → (text : List ℕ) → List Lexeme → List FlaggedItem → Type 0
FlagsSay o text before [] = Unit {0}
FlagsSay o text before (i ∷ is) =
    FlagSays o text before i.item i.begins_key (items_of is) × FlagsSay o text (latest (i.item ∷ []) before) is
