-- What follows a front in a text.
use Rattle.std.proofs.Common.{◌≡◌, ◌≢◌, ◌⊎◌, inl, inr, ◌↔◌, ℕ, zero, suc, Bool, true, false, ◌&&◌, ◌==◌, if◌then◌else◌}
use Rattle.std.proofs.Common.{List, [], ◌∷◌, ◌++◌, length, drop, codes, Option, Some, None, refl, sym, ap, ap₂, ◌∙◌}
use Rattle.std.proofs.Common.{append_assoc, Contains, arith}
use Rattle.std.specs.Borrow.{Bor}
use Rattle.std.specs.Option.{MatchOption, option_and_then}
use Rattle.std.specs.Str.{chars, encode_utf8_all, IsUtf8}
use Rattle.std.specs.Str.Pattern.{FindsTextPrefix, StripsPrefix}
use Rattle.std.specs.Cmp.Lexicographic.{bytes_decides}
use Rattle.std.proofs.lemmas.Bool.{eqb-true, eqb-false, eq-eqb}
use Rattle.std.proofs.lemmas.Bool.Decides.{same_from_decides}
use Rattle.std.proofs.lemmas.List.{append_cancel_left}
use Rattle.std.proofs.lemmas.Str.{encodes-append, encodes-chars, chars-append, IsUtf8-append}
use Rattle.granit_base.specs.Written.{Written, same_text}
use Rattle.granit_event.specs.Names.{told, behind_front, core_namespace, core_names, name_or, named}
use Rattle.granit_event.specs.Names.{core_suffix_of, more_than, has_more, lent_unless}

-- ---- a front, and what follows it

some_on : (v : Bool) (c d : ℕ) (f x r : List ℕ) → (d == c) ≡ v → (if v then behind_front f x else None) ≡ Some r
    → (behind_front f x ≡ Some r → x ≡ f ++ r) → d ∷ x ≡ c ∷ (f ++ r)
some_on true c d f x r t e ih = ap₂ (λ (k : ℕ) (ks : List ℕ). k ∷ ks) (eqb-true d c t) (ih e)
some_on false c d f x r t e ih = absurd cc

front_some : (f x r : List ℕ) → behind_front f x ≡ Some r → x ≡ f ++ r
front_some [] x r e = cc
front_some (c ∷ f) [] r e = absurd cc
front_some (c ∷ f) (d ∷ x) r e = some_on (d == c) c d f x r refl e (front_some f x r)

-- a front that both begin with
front_both : (a l b : List ℕ) → behind_front (a ++ l) (a ++ b) ≡ behind_front l b
front_both [] l b = refl
front_both (d ∷ a) l b = ap (λ (v : Bool). if v then behind_front (a ++ l) (a ++ b) else None) (eq-eqb d d refl)
    ∙ front_both a l b

front_is : (f r : List ℕ) → behind_front f (f ++ r) ≡ Some r
front_is [] r = refl
front_is (c ∷ f) r = ap (λ (v : Bool). if v then behind_front f (f ++ r) else None) (eq-eqb c c refl) ∙ front_is f r

none_on : (f x : List ℕ) (o : Option (List ℕ)) → behind_front f x ≡ o → ((r : List ℕ) → x ≢ f ++ r)
    → behind_front f x ≡ None
none_on f x None e never = e
none_on f x (Some r) e never = absurd (never r (front_some f x r e))

front_none : (f x : List ℕ) → ((r : List ℕ) → x ≢ f ++ r) → behind_front f x ≡ None
front_none f x never = none_on f x (behind_front f x) refl never

-- ---- the same of strings

all_of : (s : List ℕ) → drop 0 s ≡ s
all_of [] = refl
all_of (c ∷ s) = refl

spelled_on : (f s r : List ℕ) → IsUtf8 f → IsUtf8 s → chars s ≡ chars f ++ r → s ≡ f ++ encode_utf8_all r
spelled_on f s r u v e = sym (encodes-chars s v) ∙ ap encode_utf8_all e ∙ encodes-append (chars f) r
    ∙ ap (λ (bs : List ℕ). bs ++ encode_utf8_all r) (encodes-chars f u)

pub strip_is : (r : Option (Bor (List ℕ))) (f s : List ℕ) → IsUtf8 f → IsUtf8 s
    → MatchOption r (FindsTextPrefix f s None) (λ x. StripsPrefix (FindsTextPrefix f) s x.now)
    → told r ≡ behind_front (chars f) (chars s)
strip_is None f s u v h = sym (front_none (chars f) (chars s)
    (λ r e. h (encode_utf8_all r) (all_of s ∙ spelled_on f s r u v e)))
strip_is (Some x) f s u v h =
    let split : s ≡ f ++ x.now = h.1.1 ∙ ap (λ (bs : List ℕ). f ++ bs) (sym h.2) in
    sym (ap (behind_front (chars f)) (ap chars split ∙ chars-append f x.now u) ∙ front_is (chars f) (chars x.now))

-- ---- a text that is given in two parts

pub behind_more : (f a b l : List ℕ) → Some l ≡ behind_front f a → Some (l ++ b) ≡ behind_front f (a ++ b)
behind_more f a b l e =
    let is : a ++ b ≡ f ++ (l ++ b) = ap (λ (k : List ℕ). k ++ b) (front_some f a l (sym e)) ∙ append_assoc f l b in
    sym (ap (behind_front f) is ∙ front_is f (l ++ b))

-- of two fronts of a text one goes on with the other
split_front : (a b f r : List ℕ) → a ++ b ≡ f ++ r → ((m : List ℕ) × (a ≡ f ++ m)) ⊎ ((m : List ℕ) × (f ≡ a ++ m))
split_front [] b f r e = inr (f, refl)
split_front (d ∷ a) b [] r e = inl (d ∷ a, refl)
split_front (d ∷ a) b (c ∷ f) r e =
    let head : d ≡ c = cc in
    let rest : a ++ b ≡ f ++ r = cc in
    with_head d c a f head (split_front a b f r rest)
  where
    with_head : (d c : ℕ) (a f : List ℕ) → d ≡ c → ((m : List ℕ) × (a ≡ f ++ m)) ⊎ ((m : List ℕ) × (f ≡ a ++ m))
        → ((m : List ℕ) × (d ∷ a ≡ c ∷ (f ++ m))) ⊎ ((m : List ℕ) × (c ∷ f ≡ d ∷ (a ++ m)))
    with_head d c a f h (inl p) = inl (p.0, ap₂ (λ (k : ℕ) (ks : List ℕ). k ∷ ks) h p.1)
    with_head d c a f h (inr p) = inr (p.0, ap₂ (λ (k : ℕ) (ks : List ℕ). k ∷ ks) (sym h) p.1)

other_on : (f a : List ℕ) → None ≡ behind_front f a → None ≡ behind_front a f
    → ((m : List ℕ) × (a ≡ f ++ m)) ⊎ ((m : List ℕ) × (f ≡ a ++ m)) → ⊥
other_on f a n k (inl p) = let e : None ≡ Some p.0 = n ∙ ap (behind_front f) p.1 ∙ front_is f p.0 in cc
other_on f a n k (inr p) = let e : None ≡ Some p.0 = k ∙ ap (behind_front a) p.1 ∙ front_is a p.0 in cc

pub behind_other : (f a b : List ℕ) → None ≡ behind_front f a → None ≡ behind_front a f → None ≡ behind_front f (a ++ b)
behind_other f a b n k = sym (front_none f (a ++ b) (λ r e. other_on f a n k (split_front a b f r e)))

pub behind_rest : (f a b l : List ℕ) (o : Option (List ℕ)) → Some l ≡ behind_front a f → o ≡ behind_front l b
    → o ≡ behind_front f (a ++ b)
behind_rest f a b l o e is =
    let whole : f ≡ a ++ l = front_some a f l (sym e) in
    is ∙ sym (ap (λ (k : List ℕ). behind_front k (a ++ b)) whole ∙ front_both a l b)

pub behind_both : (f a b l r : List ℕ) → Some l ≡ behind_front a f → Some r ≡ behind_front l b
    → Some (chars [] ++ r) ≡ behind_front f (a ++ b)
unfolding chars
behind_both f a b l r e is = behind_rest f a b l (Some r) e is

pub nothing_more : (o : Option (List ℕ)) → None ≡ o → more_than (chars []) ≡ has_more o
unfolding chars
nothing_more None e = refl
nothing_more (Some x) e = absurd cc

-- ---- a text that is one followed by another

pub joined_left : (a b n l : List ℕ) → Some l ≡ behind_front a n → same_text b l ≡ same_text (a ++ b) n
joined_left a b n l e =
    let whole : n ≡ a ++ l = front_some a n l (sym e) in
    let one = bytes_decides b l in
    let two = bytes_decides (a ++ b) n in
    same_from_decides _ _ one (
      λ t. append_cancel_left a b l (two.0 t ∙ whole),
      λ q. two.1
          (ap (λ (k : List ℕ). a ++ k) q ∙ sym whole),
    )

pub joined_other : (a b n : List ℕ) → None ≡ behind_front a n → false ≡ same_text (a ++ b) n
joined_other a b n e = on_test (same_text (a ++ b) n) refl
  where
    on_test : (v : Bool) → same_text (a ++ b) n ≡ v → false ≡ v
    on_test false t = refl
    on_test true t = let none : None ≡ Some b = e ∙ ap (behind_front a) (sym ((bytes_decides (a ++ b) n).0 t))
        ∙ front_is a b in absurd cc

pub nothing_first : (a b : List ℕ) → (length a == 0) ≡ true
    → record { characters = b; is_borrowed = true } ≡ lent_unless (more_than a) (a ++ b)
nothing_first [] b e = refl
nothing_first (c ∷ a) b e = absurd (omega (arith, eqb-true (suc (length a)) 0 e))

pub something_first : (a b : List ℕ) → (length a == 0) ≡ false
    → record { characters = a ++ b; is_borrowed = false } ≡ lent_unless (more_than a) (a ++ b)
something_first [] b e = absurd (eqb-false 0 0 e refl)
something_first (c ∷ a) b e = refl

-- ---- strings of two or three pieces

with_chars : (r : Written) (s cs : List ℕ) → r ≡ record { characters = chars s; is_borrowed = false } → chars s ≡ cs
    → r ≡ record { characters = cs; is_borrowed = false }
with_chars r s cs is e = rw (← e) is

pub two_pieces : (r : Written) (s a b : List ℕ) → IsUtf8 a → s ≡ a ++ b
    → r ≡ record { characters = chars s; is_borrowed = false }
    → r ≡ record { characters = chars a ++ chars b; is_borrowed = false }
two_pieces r s a b u e is = with_chars r s (chars a ++ chars b) is (ap chars e ∙ chars-append a b u)

pub three_pieces : (r : Written) (s a b d : List ℕ) → IsUtf8 a → IsUtf8 b → s ≡ (a ++ b) ++ d
    → r ≡ record { characters = chars s; is_borrowed = false }
    → r ≡ record { characters = (chars a ++ chars b) ++ chars d; is_borrowed = false }
three_pieces r s a b d u v e is =
    with_chars r s ((chars a ++ chars b) ++ chars d) is
    (ap chars e ∙ chars-append (a ++ b) d (IsUtf8-append a b u v)
    ∙ ap (λ (cs : List ℕ). cs ++ chars d) (chars-append a b u))

pub not_verbatim : (a b v : Bool) → a ≡ false → v ≡ a → v ≡ a && b
not_verbatim a b v e is = is ∙ e ∙ ap (λ (w : Bool). w && b) (sym e)

pub may_be_verbatim : (a b v : Bool) → a ≡ true → v ≡ b → v ≡ a && b
may_be_verbatim a b v e is = is ∙ ap (λ (w : Bool). w && b) (sym e)

-- ---- the names of the core schema

pub seven : (x : List ℕ) (r1 r2 r3 r4 r5 r6 r7 : Option (List ℕ)) → r1 ≡ name_or (codes "str") x None
    → r2 ≡ name_or (codes "seq") x r1 → r3 ≡ name_or (codes "null") x r2
    → r4 ≡ name_or (codes "map") x r3 → r5 ≡ name_or (codes "int") x r4 → r6 ≡ name_or (codes "float") x r5
    → r7 ≡ name_or (codes "bool") x r6 → r7 ≡ named core_names x
seven x r1 r2 r3 r4 r5 r6 r7 e1 e2 e3 e4 e5 e6 e7 =
    e7 ∙ ap (name_or (codes "bool") x) (e6 ∙ ap (name_or (codes "float") x)
    (e5 ∙ ap (name_or (codes "int") x) (e4
    ∙ ap (name_or (codes "map") x) (e3 ∙ ap (name_or (codes "null") x) (e2 ∙ ap (name_or (codes "seq") x) e1)))))

gives_on : (v : Bool) (n x s : List ℕ) (ns : List (List ℕ)) → same_text x n ≡ v
    → (if v then Some n else named ns x) ≡ Some s → (named ns x ≡ Some s → (x ≡ s) × Contains ns s)
    → (x ≡ s) × Contains (n ∷ ns) s
gives_on true n x s ns t e ih = let is : n ≡ s = cc in ((bytes_decides x n).0 t ∙ is, (0, omega arith, is))
gives_on false n x s ns t e ih = let more = ih e in (more.0, (suc more.1.0, omega (arith, more.1.1), more.1.2))

named_gives : (ns : List (List ℕ)) (x s : List ℕ) → named ns x ≡ Some s → (x ≡ s) × Contains ns s
named_gives [] x s e = absurd cc
named_gives (n ∷ ns) x s e = gives_on (same_text x n) n x s ns refl e (named_gives ns x s)

finds_on : (v : Bool) (n s : List ℕ) (ns : List (List ℕ)) → same_text s n ≡ v → (v ≡ false → named ns s ≡ Some s)
    → (if v then Some n else named ns s) ≡ Some s
finds_on true n s ns t more = ap Some (sym ((bytes_decides s n).0 t))
finds_on false n s ns t more = more refl

not_first : (n s : List ℕ) → same_text s n ≡ false → n ≡ s → ⊥
not_first n s t is = let same = (bytes_decides s n).1 (sym is) in cc

named_finds : (ns : List (List ℕ)) (s : List ℕ) → Contains ns s → named ns s ≡ Some s
named_finds [] s h = absurd (omega (arith, h.1))
named_finds (n ∷ ns) s (zero, _, is) = finds_on (same_text s n) n s ns refl (λ t. absurd (not_first n s t is))
named_finds (n ∷ ns) s (suc k, below, is) = finds_on (same_text s n) n s ns refl
    (λ t. named_finds ns s (k, omega (arith, below), is))

named_core : (x s : List ℕ) (o : Option (List ℕ)) → behind_front core_namespace x ≡ o
    → option_and_then (named core_names) o ≡ Some s → (x ≡ core_namespace ++ s) × Contains core_names s
named_core x s None is e = absurd cc
named_core x s (Some r) is e =
    let found = named_gives core_names r s e in
    (front_some core_namespace x r is ∙ ap (λ (k : List ℕ). core_namespace ++ k) found.0, found.1)

pub core_is : (x s : List ℕ) → (core_suffix_of x ≡ Some s) ↔ ((x ≡ core_namespace ++ s) × Contains core_names s)
core_is x s = (
  λ e. named_core x s (behind_front core_namespace x) refl e,
  λ h. ap (option_and_then (named core_names)) (ap (behind_front core_namespace) h.0 ∙ front_is core_namespace s)
      ∙ named_finds core_names s h.1,
)

-- what follows a front in two texts
pub ruleset behind_two = (behind_more, behind_other, behind_rest, behind_both, nothing_more)
