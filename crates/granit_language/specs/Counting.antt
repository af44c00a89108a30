-- The place of an index, counted on the whole text: byte-order marks in front of documents count no column
-- (YAML 1.2.2, 5.2, 5.4).
use Rattle.std.specs.Prelude.{◌≡◌, ℕ, suc, ◌+◌, ◌-◌, ◌<◌, ◌&&◌, nat_le, nat_lt, List, [], ◌∷◌, ◌++◌, length, take, drop}
use Rattle.std.specs.Prelude.{Option, Some, None}
use Rattle.std.specs.Str.{encode_utf8_all}
use Rattle.granit_base.specs.Place.{Mark, first}
use Rattle.granit_lexemes.specs.Comment.{CommentRead}
use Rattle.granit_lexemes.specs.Here.{Here, mark_of}
use Rattle.granit_lexemes.specs.Lexeme.{Lexeme, Item, OfLexeme, OfComment}
use Rattle.granit_lexemes.specs.Place.{one_more_if, line_ends, since_line_end}

-- how many of some indices are from one to another
abbrev pub count_within : ℕ → ℕ → List ℕ → ℕ
count_within from to [] = 0
count_within from to (m ∷ ms) = one_more_if (nat_le from m && nat_lt m to) (count_within from to ms)

-- how many of the marks at these indices stand before an index on its line
abbrev pub marks_on_line : List ℕ → List ℕ → ℕ → ℕ
marks_on_line x ms i = count_within (i - since_line_end x i) i ms

-- a mark is the one of an index, where the byte-order marks at these indices count no column
pub record CountedMark (x ms : List ℕ) (i : ℕ) (m : Mark) : Type 0 where
  pub offset : m.byte_offset ≡ Some (length (encode_utf8_all (take i x)))
  pub index : m.place.index ≡ i
  pub line : m.place.line ≡ suc (line_ends x i)
  pub column : m.place.column + marks_on_line x ms i ≡ since_line_end x i

abbrev pub AllBelow : ℕ → List ℕ → Type 0
AllBelow i [] = Unit {0}
AllBelow i (m ∷ ms) = (m < i) × AllBelow i ms

-- a reader stands at an index, behind these marks
pub record CountedHere (x ms : List ℕ) (i : ℕ) (h : Here) : Type 0 where
  pub text : h.unread.text ≡ drop i x
  pub mark : CountedMark x ms i (mark_of h)
  pub below : AllBelow i ms

-- a byte-order mark stands at each of these indices, with nothing but such marks before it on its line
abbrev pub MarksStand : List ℕ → List ℕ → List ℕ → Type 0
MarksStand x ms [] = Unit {0}
MarksStand x ms (i ∷ is) =
    (first (drop i x) ≡ 0xFEFF) × (marks_on_line x ms i ≡ since_line_end x i) × MarksStand x ms is

-- ---- what a lexeme or a comment tells of its places

abbrev pub comment_places : CommentRead → List Mark
comment_places c = c.source.start ∷ c.source.end ∷ []

abbrev pub tail_places : Option CommentRead → List Mark
tail_places None = []
tail_places (Some c) = comment_places c

-- where it begins, the span that is shown, where it ends, and the span of the comment behind it
abbrev pub lexeme_places : Lexeme → List Mark
lexeme_places y = y.start ∷ y.shown.start ∷ y.shown.end ∷ y.end ∷ tail_places y.tail

abbrev pub places_of : List Item → List Mark
places_of [] = []
places_of (OfLexeme y ∷ is) = lexeme_places y ++ places_of is
places_of (OfComment c ∷ is) = comment_places c ++ places_of is

-- each of these is the place of an index
abbrev pub PlacesCounted : List ℕ → List ℕ → List Mark → Type 0
PlacesCounted x ms [] = Unit {0}
PlacesCounted x ms (m ∷ rest) = ((i : ℕ) × CountedMark x ms i m) × PlacesCounted x ms rest

-- All places that the lexemes and comments of a text tell are counted on it, and the byte-order marks in front of its
-- documents, one list for all of them, count no column.
pub record ItemsCounted (x : List ℕ) (items : List Item) : Type 0 where
  pub marks : List ℕ
  pub stand : MarksStand x marks marks
  pub places : PlacesCounted x marks (places_of items)
