-- What contracts see of a text.
use Rattle.std.specs.Prelude.{true, ℕ, Bool, List, nat_eq, String}
use Rattle.std.specs.declared.alloc.Global.{Global}
use Rattle.std.specs.Str.{chars}
use Rattle.std.specs.Ordering.{nat_cmp}
use Rattle.std.specs.Cmp.Lexicographic.{slice_cmp}
use Rattle.std.specs.declared.cmp.Ordering.{Ordering}
use Rattle.std.specs.String.{string_bytes}
use lib.Pointwise.{pointwise}

-- its characters, and whether it is borrowed from the source
pub record Written : Type 0 where
  pub characters : List ℕ
  pub is_borrowed : Bool

-- a text that is borrowed
abbrev pub lent : List ℕ → Written
lent text = record { characters = text; is_borrowed = true }

-- two lists of characters are the same
abbrev pub same_text : List ℕ → List ℕ → Bool
same_text a b = pointwise nat_eq a b

-- two texts are equal where their characters are
abbrev pub same_characters : Written → Written → Bool
same_characters a b = pointwise nat_eq a.characters b.characters

-- lists of texts are equal where their texts are, one by one
abbrev pub same_texts : List Written → List Written → Bool
same_texts = pointwise same_characters

-- the order of the first characters that differ
abbrev pub order_of_characters : Written → Written → Ordering
order_of_characters a b = slice_cmp nat_cmp a.characters b.characters

-- the characters of a `String`
abbrev pub string_chars : String Global → List ℕ
string_chars s = chars (string_bytes s)
