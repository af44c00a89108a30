-- The placement of each comment is the declared one.
use Rattle.std.proofs.Common.{◌≡◌, ℕ, suc, ◌==◌, ◌||◌, Bool, true, false, arith, List, [], ◌∷◌, ◌⊎◌, inl, inr, Option}
use Rattle.std.proofs.Common.{Some, None, refl, sym, ◌∙◌, subst}
use Rattle.std.proofs.lemmas.Bool.{eqb-true}
use Rattle.std.specs.Prelude.{if◌then◌else◌, is_some}
use Rattle.std.proofs.lemmas.Bool.Decides.{nat_tests}
use Rattle.granit_base.specs.declared.style.Placement.{Placement}
use Rattle.granit_base.specs.declared.style.Placement.TheVariants.{Above, Right, Free}
use Rattle.granit_lexemes.specs.Comment.{CommentRead}
use Rattle.granit_lexemes.specs.Lexeme.{LexemeKind, StreamEnd, KeyStart, Lexeme, Item, OfLexeme, OfComment}
use Rattle.granit_machine.specs.Lexing.{FlaggedItem}
use Rattle.granit_machine.specs.Parser.{line_of_lexeme, line_of_item, next_line, placed_by_line, placed}
use Rattle.granit_comment_places.specs.Placements.{TokenBefore, ItemOnLine, NextOnLine, IsTheEnd, NothingNext, PlacedAs}
use Rattle.granit_comment_places.specs.Placements.{is_right, is_last, is_above, is_free}

-- what the next line says of an item
abbrev Says : Item → Bool → Option ℕ → Type 0
Says x b None = IsTheEnd x
Says x b (Some n) = ItemOnLine n x b

-- a key begins or ends at the lexeme
keyed : (b : Bool) (key : Option KeyStart) → (b || is_some key) ≡ true → (b ≡ true) ⊎ ((k : KeyStart) × (key ≡ Some k))
keyed true key e = inl refl
keyed false (Some k) e = inr (k, refl)
keyed false None e = absurd cc

not_keyed : (b : Bool) (key : Option KeyStart) → (b || is_some key) ≡ false → (b ≡ true)
    ⊎ ((k : KeyStart) × (key ≡ Some k)) → ⊥
not_keyed true key e h = cc (e)
not_keyed false (Some k) e h = cc (e)
not_keyed false None e (inl h) = cc (h)
not_keyed false None e (inr h) = cc (h.1)

not_true : (b : Bool) → b ≡ false → b ≡ true → ⊥
not_true b e f = cc (e, f)

other_says :
    (l : Lexeme) (b ends key : Bool) → (l.kind ≡ StreamEnd → ⊥) → l.ends_column ≡ ends → (b || is_some l.key) ≡ key →
    Says (OfLexeme l) b (if ends || key then Some l.start.place.line else Some l.shown.start.place.line)
other_says l b true key n e k = inl (inl e, refl)
other_says l b false true n e k = inl (inr (n, keyed b l.key k), refl)
other_says l b false false n e k = inr (none, n, refl)
  where
    none : TokenBefore l b → ⊥
    none (inl h) = not_true l.ends_column e h
    none (inr h) = not_keyed b l.key k h.1

end_says : (l : Lexeme) (b ends : Bool) → l.kind ≡ StreamEnd → l.ends_column ≡ ends →
    Says (OfLexeme l) b (if ends then Some l.start.place.line else None)
end_says l b true n e = inl (inl e, refl)
end_says l b false n e = (n, e)

no_end : (kind other : LexemeKind) → other ≡ kind → (kind ≡ StreamEnd → ⊥) → other ≡ StreamEnd → ⊥
no_end kind other e h f = h (sym e ∙ f)

lexeme_says : (l : Lexeme) (b : Bool) (kind : LexemeKind) → l.kind ≡ kind →
    Says (OfLexeme l) b (line_of_lexeme kind l (b || is_some l.key))
lexeme_says l b StreamEnd e = end_says l b l.ends_column e refl
lexeme_says l b kind e =
    other_says l b l.ends_column (b || is_some l.key) (no_end kind l.kind e (λ f. cc (f))) refl refl

item_says : (x : Item) (b : Bool) → Says x b (line_of_item x b)
item_says (OfComment c) b = refl
item_says (OfLexeme l) b = lexeme_says l b l.kind refl

abbrev SaysNext : List FlaggedItem → Option ℕ → Type 0
SaysNext rest None = NothingNext rest
SaysNext rest (Some n) = NextOnLine n rest

by_item : (i : FlaggedItem) (is : List FlaggedItem) (n : Option ℕ) → Says i.item i.begins_key n → SaysNext (i ∷ is) n
by_item i is None h = h
by_item i is (Some n) h = h

next_says : (rest : List FlaggedItem) → SaysNext rest (next_line rest)
next_says [] = tt
next_says (i ∷ is) = by_item i is (line_of_item i.item i.begins_key) (item_says i.item i.begins_key)

-- ---- at most one line is the next

one_item : (x : Item) (b : Bool) (n m : ℕ) → ItemOnLine n x b → ItemOnLine m x b → n ≡ m
one_item (OfComment c) b n m h k = h ∙ sym k
one_item (OfLexeme l) b n m (inl h) (inl k) = h.1 ∙ sym k.1
one_item (OfLexeme l) b n m (inl h) (inr k) = absurd (k.0 h.0)
one_item (OfLexeme l) b n m (inr h) (inl k) = absurd (h.0 k.0)
one_item (OfLexeme l) b n m (inr h) (inr k) = h.2 ∙ sym k.2

one_line : (rest : List FlaggedItem) (n m : ℕ) → NextOnLine n rest → NextOnLine m rest → n ≡ m
one_line [] n m h k = absurd h
one_line (i ∷ is) n m h k = one_item i.item i.begins_key n m h k

end_or_line : (x : Item) (b : Bool) (n : ℕ) → IsTheEnd x → ItemOnLine n x b → ⊥
end_or_line (OfComment c) b n h k = h
end_or_line (OfLexeme l) b n h (inl k) = by k.0
  where
    by : TokenBefore l b → ⊥
    by (inl e) = not_true l.ends_column h.1 e
    by (inr e) = e.0 h.0
end_or_line (OfLexeme l) b n h (inr k) = k.1 h.0

nothing_or_line : (rest : List FlaggedItem) (n : ℕ) → NothingNext rest → NextOnLine n rest → ⊥
nothing_or_line [] n h k = k
nothing_or_line (i ∷ is) n h k = end_or_line i.item i.begins_key n h k

-- ---- placements

other_line : (n m : ℕ) → (n == m) ≡ false → n ≡ m → ⊥
other_line n m e h = grind (arith, nat_tests)

line_placed : (c : CommentRead) (rest : List FlaggedItem) (n : ℕ) (v : Bool) → c.is_right ≡ false →
    (n == suc c.source.end.place.line) ≡ v →
    NextOnLine n rest → PlacedAs c rest (if v then Above else Free)
line_placed c rest n true r e h =
    is_above r (subst (λ n. NextOnLine n rest) (eqb-true n (suc c.source.end.place.line) e) h)
line_placed c rest n false r e h = is_free n r h (other_line n (suc c.source.end.place.line) e)

left_placed : (c : CommentRead) (rest : List FlaggedItem) (next : Option ℕ) → c.is_right ≡ false → SaysNext rest next →
    PlacedAs c rest (placed_by_line c.source.end.place.line next)
left_placed c rest None r h = is_last r h
left_placed c rest (Some n) r h = line_placed c rest n (n == suc c.source.end.place.line) r refl h

placed_if : (c : CommentRead) (rest : List FlaggedItem) (v : Bool) → c.is_right ≡ v →
    PlacedAs c rest (if v then Right else placed_by_line c.source.end.place.line (next_line rest))
placed_if c rest true r = is_right r
placed_if c rest false r = left_placed c rest (next_line rest) r (next_says rest)

pub placed_is : (c : CommentRead) (rest : List FlaggedItem) → PlacedAs c rest (placed c (next_line rest))
placed_is c rest = placed_if c rest c.is_right refl

pub one_placement : (c : CommentRead) (rest : List FlaggedItem) (a b : Placement) → PlacedAs c rest a →
    PlacedAs c rest b → a ≡ b
one_placement c rest a b (is_right r) (is_right s) = refl
one_placement c rest a b (is_last r h) (is_last s k) = refl
one_placement c rest a b (is_above r h) (is_above s k) = refl
one_placement c rest a b (is_free n r h f) (is_free m s k g) = refl
one_placement c rest a b (is_right r) (is_last s k) = absurd (not_true c.is_right s r)
one_placement c rest a b (is_right r) (is_above s k) = absurd (not_true c.is_right s r)
one_placement c rest a b (is_right r) (is_free m s k g) = absurd (not_true c.is_right s r)
one_placement c rest a b (is_last r h) (is_right s) = absurd (not_true c.is_right r s)
one_placement c rest a b (is_above r h) (is_right s) = absurd (not_true c.is_right r s)
one_placement c rest a b (is_free n r h f) (is_right s) = absurd (not_true c.is_right r s)
one_placement c rest a b (is_last r h) (is_above s k) = absurd (nothing_or_line rest (suc c.source.end.place.line) h k)
one_placement c rest a b (is_last r h) (is_free m s k g) = absurd (nothing_or_line rest m h k)
one_placement c rest a b (is_above r h) (is_last s k) = absurd (nothing_or_line rest (suc c.source.end.place.line) k h)
one_placement c rest a b (is_free n r h f) (is_last s k) = absurd (nothing_or_line rest n k h)
one_placement c rest a b (is_above r h) (is_free m s k g) =
    absurd (g (one_line rest m (suc c.source.end.place.line) k h))
one_placement c rest a b (is_free n r h f) (is_above s k) =
    absurd (f (one_line rest n (suc c.source.end.place.line) h k))
