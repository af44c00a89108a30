-- Where a comment stands, by the items behind it (YAML 1.2.2, 6.6).
use Rattle.std.specs.Prelude.{◌≡◌, ℕ, suc, Bool, true, false, List, [], ◌∷◌, ◌⊎◌, Some}
use Rattle.granit_base.specs.declared.style.Placement.{Placement}
use Rattle.granit_base.specs.declared.style.Placement.TheVariants.{Above, Right, Free, Last}
use Rattle.granit_lexemes.specs.Comment.{CommentRead}
use Rattle.granit_lexemes.specs.Lexeme.{StreamEnd, KeyStart, Lexeme, Item, OfLexeme, OfComment}
use Rattle.granit_machine.specs.Lexing.{FlaggedItem}

-- the end of a collection or the begin of a key stands at a lexeme's start, before it
abbrev pub TokenBefore : Lexeme → Bool → Type 0
TokenBefore l begins_key =
    (l.ends_column ≡ true)
    ⊎ ((l.kind ≡ StreamEnd → ⊥) × ((begins_key ≡ true) ⊎ ((k : KeyStart) × (l.key ≡ Some k))))

-- the line of the next token: that of a comment, of such a token, or else of what the lexeme shows
abbrev pub ItemOnLine : ℕ → Item → Bool → Type 0
ItemOnLine n (OfComment c) begins_key = n ≡ c.source.start.place.line
ItemOnLine n (OfLexeme l) begins_key =
    (TokenBefore l begins_key × (n ≡ l.start.place.line))
    ⊎ ((TokenBefore l begins_key → ⊥) × (l.kind ≡ StreamEnd → ⊥) × (n ≡ l.shown.start.place.line))

abbrev pub NextOnLine : ℕ → List FlaggedItem → Type 0
NextOnLine n [] = ⊥
NextOnLine n (i ∷ is) = ItemOnLine n i.item i.begins_key

abbrev pub IsTheEnd : Item → Type 0
IsTheEnd (OfComment c) = ⊥
IsTheEnd (OfLexeme l) = (l.kind ≡ StreamEnd) × (l.ends_column ≡ false)

-- nothing but the end of the text comes
abbrev pub NothingNext : List FlaggedItem → Type 0
NothingNext [] = Unit {0}
NothingNext (i ∷ is) = IsTheEnd i.item

-- Right of something on its line; else above what begins on the next line, the last, or free.
pub data PlacedAs (c : CommentRead) (rest : List FlaggedItem) : Placement → Type 0 where
  is_right : c.is_right ≡ true → PlacedAs c rest Right
  is_last : c.is_right ≡ false → NothingNext rest → PlacedAs c rest Last
  is_above : c.is_right ≡ false → NextOnLine (suc c.source.end.place.line) rest → PlacedAs c rest Above
  is_free : (n : ℕ) → c.is_right ≡ false → NextOnLine n rest → (n ≡ suc c.source.end.place.line → ⊥) →
      PlacedAs c rest Free
