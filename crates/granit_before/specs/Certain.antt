-- The lexemes of which it is certain whether a simple key begins with them: none of them may still begin one.
use Rattle.std.specs.Prelude.{◌≡◌, ℕ, Bool, true, false, List, [], ◌∷◌, ◌++◌}
use Rattle.granit_language.specs.Seen.{Flagged}
use Rattle.granit_lexemes.specs.Lexeme.{Item, OfLexeme, OfComment}
use Rattle.granit_machine.specs.Lexing.{FlaggedItem}

-- with none of these a key may still begin
abbrev pub NoneMay : (May : ℕ → Type 0) → List Flagged → Type 0
NoneMay May [] = Unit {0}
NoneMay May (f ∷ fs) = (May f.0.number → ⊥) × NoneMay May fs

-- with the first of these one may
abbrev pub FirstMay : (May : ℕ → Type 0) → List Flagged → Type 0
FirstMay May [] = Unit {0}
FirstMay May (f ∷ fs) = May f.0.number

-- those before the first one with which a key may still begin
pub record CertainFront (May : ℕ → Type 0) (fs front : List Flagged) : Type 0 where
  pub more : List Flagged
  pub is : fs ≡ front ++ more
  pub certain : NoneMay May front
  pub waits : FirstMay May more

-- ---- the same of items, comments among them

abbrev pub ItemMay : (May : ℕ → Type 0) → Item → Type 0
ItemMay May (OfLexeme x) = May x.number
ItemMay May (OfComment c) = ⊥

abbrev pub NoItemMay : (May : ℕ → Type 0) → List FlaggedItem → Type 0
NoItemMay May [] = Unit {0}
NoItemMay May (i ∷ is) = (ItemMay May i.item → ⊥) × NoItemMay May is

abbrev pub FirstItemMay : (May : ℕ → Type 0) → List FlaggedItem → Type 0
FirstItemMay May [] = Unit {0}
FirstItemMay May (i ∷ is) = ItemMay May i.item

-- of all items of a text those that are told before a fault of reading, or all where the text was read to its end
pub record ToldBeforeFault (ended : Bool) (May : ℕ → Type 0) (items front : List FlaggedItem) : Type 0 where
  pub more : List FlaggedItem
  pub is : items ≡ front ++ more
  pub all : ended ≡ true → more ≡ []
  pub certain : ended ≡ false → NoItemMay May front × FirstItemMay May more
