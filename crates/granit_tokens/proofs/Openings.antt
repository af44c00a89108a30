-- What tokens open and end, as a stack; a stack that tells them balanced.
use Rattle.std.proofs.Common.{◌≡◌, ℕ, suc, Bool, true, false, ◌+◌, ◌≤◌, List, [], ◌∷◌, ◌++◌, Option, Some, None}
use Rattle.std.proofs.Common.{◌⊎◌, inl, inr, refl, sym, ap, ◌∙◌, subst, arith}
use Rattle.granit_base.specs.Place.{Mark}
use Rattle.granit_lexemes.specs.Lexeme.{LexemeKind, Directive, DocumentStart, DocumentEnd, StreamEnd, Open, Close}
use Rattle.granit_lexemes.specs.Lexeme.{Comma}
use Rattle.granit_lexemes.specs.Lexeme.{Dash, Question, Colon, Alias, Anchor, Tag, Scalar, Lexeme, is_opener_kind}
use Rattle.granit_lexemes.specs.Place.{one_more_if}
use Rattle.granit_lexemes.specs.declared.layout.Bracket.{Bracket}
use Rattle.granit_lexemes.specs.declared.layout.Bracket.TheVariants.{Square, Curly}
use Rattle.granit_steps.specs.Tokens.{Insertion, BlockEnd, BlockMappingStart, BlockSequenceStart, KeySign, PairStart}
use Rattle.granit_steps.specs.Tokens.{PairEnd, ScanToken, Inserted, Own, Noted}
use Rattle.granit_tokens.specs.Balanced.{Encloses, block_mapping, block_sequence, single_pair, in_brackets, is_beside}
use Rattle.granit_tokens.specs.Balanced.{BalancedTo, nothing_more, one_beside, enclosed, Balanced, is_start}
use Rattle.granit_tokens.specs.Balanced.{BeginsBalanced, all_ended, one_open, block_starts, block_ends}
use Rattle.granit_tokens.specs.Balanced.{is_beside_kind, starts_block, ends_block}

pub data Opening : Type 0 where
  OfBlock OfPair : Opening
  OfBracket : Bracket → Opening

abbrev pub Openings : Type 0
Openings = List Opening

abbrev pub ends_block_of : Openings → Option Openings
ends_block_of (OfBlock ∷ st) = Some st
ends_block_of st = None

abbrev pub ends_pair_of : Openings → Option Openings
ends_pair_of (OfPair ∷ st) = Some st
ends_pair_of st = None

abbrev pub closes_of : Bracket → Openings → Option Openings
closes_of Square (OfBracket Square ∷ st) = Some st
closes_of Curly (OfBracket Curly ∷ st) = Some st
closes_of bracket st = None

abbrev pub insertion_passed : Insertion → Openings → Option Openings
insertion_passed BlockEnd st = ends_block_of st
insertion_passed BlockMappingStart st = Some (OfBlock ∷ st)
insertion_passed BlockSequenceStart st = Some (OfBlock ∷ st)
insertion_passed KeySign st = Some st
insertion_passed PairStart st = Some (OfPair ∷ st)
insertion_passed PairEnd st = ends_pair_of st

abbrev pub kind_passed : LexemeKind → Openings → Option Openings
kind_passed (Open bracket) st = Some (OfBracket bracket ∷ st)
kind_passed (Close bracket) st = closes_of bracket st
kind_passed kind st = Some st

abbrev pub token_passed : ScanToken → Openings → Option Openings
token_passed (Inserted what m) st = insertion_passed what st
token_passed (Own x) st = kind_passed x.kind st
token_passed (Noted c) st = Some st

abbrev pub and_then : Option Openings → (Openings → Option Openings) → Option Openings
and_then None f = None
and_then (Some st) f = f st

abbrev pub passed : List ScanToken → Openings → Option Openings
passed [] st = Some st
passed (t ∷ ts) st = and_then (token_passed t st) (passed ts)

-- ---- lists of tokens one behind the other

then_then : (r : Option Openings) (f g : Openings → Option Openings)
    → and_then (and_then r f) g ≡ and_then r (λ st. and_then (f st) g)
then_then None f g = refl
then_then (Some st) f g = refl

then_alike : (r : Option Openings) (f g : Openings → Option Openings) → ((st : Openings) → f st ≡ g st)
    → and_then r f ≡ and_then r g
then_alike None f g p = refl
then_alike (Some st) f g p = p st

pub passed_append : (xs ys : List ScanToken) (st : Openings)
    → passed (xs ++ ys) st ≡ and_then (passed xs st) (passed ys)
passed_append [] ys st = refl
passed_append (x ∷ xs) ys st =
    then_alike (token_passed x st) (passed (xs ++ ys)) (λ st. and_then (passed xs st) (passed ys))
    (passed_append xs ys) ∙ sym (then_then (token_passed x st) (passed xs) (passed ys))

pub passed_both : (xs ys : List ScanToken) (a b : Openings) (c : Option Openings) → passed xs a ≡ Some b
    → passed ys b ≡ c → passed (xs ++ ys) a ≡ c
passed_both xs ys a b c p q = passed_append xs ys a ∙ ap (λ r. and_then r (passed ys)) p ∙ q

-- what a front of tokens passes too
front_by : (r : Option Openings) (f : Openings → Option Openings) (c : Openings) → and_then r f ≡ Some c
    → (b : Openings) × (r ≡ Some b)
front_by None f c e = absurd cc
front_by (Some b) f c e = (b, refl)

pub passed_front : (xs ys : List ScanToken) (a c : Openings) → passed (xs ++ ys) a ≡ Some c
    → (b : Openings) × (passed xs a ≡ Some b)
passed_front xs ys a c e = front_by (passed xs a) (passed ys) c (sym (passed_append xs ys a) ∙ e)

-- ---- which tokens start and end one

abbrev Starts : Opening → ScanToken → Type 0
Starts OfBlock (Inserted BlockMappingStart m) = Unit {0}
Starts OfBlock (Inserted BlockSequenceStart m) = Unit {0}
Starts OfPair (Inserted PairStart m) = Unit {0}
Starts (OfBracket bracket) (Own x) = x.kind ≡ Open bracket
Starts o t = ⊥

abbrev Ends : Opening → ScanToken → Type 0
Ends o end = (start : ScanToken) → Starts o start → Encloses start end

block_end : (n : Mark) → Ends OfBlock (Inserted BlockEnd n)
block_end n (Inserted BlockMappingStart m) p = block_mapping
block_end n (Inserted BlockSequenceStart m) p = block_sequence
block_end n start p = absurd p

pair_end : (n : Mark) → Ends OfPair (Inserted PairEnd n)
pair_end n (Inserted PairStart m) p = single_pair
pair_end n start p = absurd p

bracket_end : (bracket : Bracket) (y : Lexeme) → y.kind ≡ Close bracket → Ends (OfBracket bracket) (Own y)
bracket_end bracket y e (Own x) p = in_brackets p e
bracket_end bracket y e start p = absurd p

data Steps (t : ScanToken) (st after : Openings) : Type 0 where
  stays : is_beside t ≡ true → st ≡ after → Steps t st after
  opens : (o : Opening) → Starts o t → is_start t ≡ true → after ≡ o ∷ st → Steps t st after
  ends : (o : Opening) → Ends o t → st ≡ o ∷ after → Steps t st after

some_same : (a b : Openings) → ◌≡◌ {A = Option Openings} (Some a) (Some b) → a ≡ b
some_same a b e = cc (e)

block_steps : (m : Mark) (st after : Openings) → ends_block_of st ≡ Some after → Steps (Inserted BlockEnd m) st after
block_steps m [] after e = absurd cc
block_steps m (OfBlock ∷ st) after e = ends OfBlock (block_end m) (ap (λ (st : Openings). OfBlock ∷ st)
    (some_same st after e))
block_steps m (OfPair ∷ st) after e = absurd cc
block_steps m (OfBracket bracket ∷ st) after e = absurd cc

pair_steps : (m : Mark) (st after : Openings) → ends_pair_of st ≡ Some after → Steps (Inserted PairEnd m) st after
pair_steps m [] after e = absurd cc
pair_steps m (OfPair ∷ st) after e = ends OfPair (pair_end m) (ap (λ (st : Openings). OfPair ∷ st)
    (some_same st after e))
pair_steps m (OfBlock ∷ st) after e = absurd cc
pair_steps m (OfBracket bracket ∷ st) after e = absurd cc

close_steps : (x : Lexeme) (bracket : Bracket) → x.kind ≡ Close bracket → (st after : Openings)
    → closes_of bracket st ≡ Some after → Steps (Own x) st after
close_steps x Square k [] after e = absurd cc
close_steps x Curly k [] after e = absurd cc
close_steps x Square k (OfBlock ∷ st) after e = absurd cc
close_steps x Curly k (OfBlock ∷ st) after e = absurd cc
close_steps x Square k (OfPair ∷ st) after e = absurd cc
close_steps x Curly k (OfPair ∷ st) after e = absurd cc
close_steps x Square k (OfBracket Curly ∷ st) after e = absurd cc
close_steps x Curly k (OfBracket Square ∷ st) after e = absurd cc
close_steps x Square k (OfBracket Square ∷ st) after e =
    ends (OfBracket Square) (bracket_end Square x k)
    (ap (λ (st : Openings). OfBracket Square ∷ st) (some_same st after e))
close_steps x Curly k (OfBracket Curly ∷ st) after e =
    ends (OfBracket Curly) (bracket_end Curly x k)
    (ap (λ (st : Openings). OfBracket Curly ∷ st) (some_same st after e))

quiet_steps : (x : Lexeme) (kind : LexemeKind) → x.kind ≡ kind → is_beside_kind kind ≡ true → (st after : Openings)
    → ◌≡◌ {A = Option Openings} (Some st) (Some after) → Steps (Own x) st after
quiet_steps x kind k q st after e = stays (ap is_beside_kind k ∙ q) (some_same st after e)

own_steps : (x : Lexeme) (kind : LexemeKind) → x.kind ≡ kind → (st after : Openings)
    → kind_passed kind st ≡ Some after → Steps (Own x) st after
own_steps x (Open bracket) k st after e =
    opens (OfBracket bracket) k (ap is_opener_kind k) (sym (some_same (OfBracket bracket ∷ st) after e))
own_steps x (Close bracket) k st after e = close_steps x bracket k st after e
own_steps x (Directive d) k st after e = quiet_steps x (Directive d) k refl st after e
own_steps x DocumentStart k st after e = quiet_steps x DocumentStart k refl st after e
own_steps x DocumentEnd k st after e = quiet_steps x DocumentEnd k refl st after e
own_steps x StreamEnd k st after e = quiet_steps x StreamEnd k refl st after e
own_steps x Comma k st after e = quiet_steps x Comma k refl st after e
own_steps x Dash k st after e = quiet_steps x Dash k refl st after e
own_steps x Question k st after e = quiet_steps x Question k refl st after e
own_steps x Colon k st after e = quiet_steps x Colon k refl st after e
own_steps x (Alias name) k st after e = quiet_steps x (Alias name) k refl st after e
own_steps x (Anchor name) k st after e = quiet_steps x (Anchor name) k refl st after e
own_steps x (Tag handle suffix) k st after e = quiet_steps x (Tag handle suffix) k refl st after e
own_steps x (Scalar style text) k st after e = quiet_steps x (Scalar style text) k refl st after e

steps : (t : ScanToken) (st after : Openings) → token_passed t st ≡ Some after → Steps t st after
steps (Inserted BlockEnd m) st after e = block_steps m st after e
steps (Inserted BlockMappingStart m) st after e = opens OfBlock tt refl (sym (some_same (OfBlock ∷ st) after e))
steps (Inserted BlockSequenceStart m) st after e = opens OfBlock tt refl (sym (some_same (OfBlock ∷ st) after e))
steps (Inserted KeySign m) st after e = stays refl (some_same st after e)
steps (Inserted PairStart m) st after e = opens OfPair tt refl (sym (some_same (OfPair ∷ st) after e))
steps (Inserted PairEnd m) st after e = pair_steps m st after e
steps (Own x) st after e = own_steps x x.kind refl st after e
steps (Noted c) st after e = stays refl (some_same st after e)

-- a token and what is passed behind it
record Behind (t : ScanToken) (ts : List ScanToken) (st last : Openings) : Type 0 where
  after : Openings
  step : Steps t st after
  rest : passed ts after ≡ Some last

behind_by : (t : ScanToken) (ts : List ScanToken) (st last : Openings) (r : Option Openings) → token_passed t st ≡ r
    → and_then r (passed ts) ≡ Some last → Behind t ts st last
behind_by t ts st last None p e = absurd cc
behind_by t ts st last (Some after) p e = record { after = after; step = steps t st after p; rest = e }

behind : (t : ScanToken) (ts : List ScanToken) (st last : Openings) → passed (t ∷ ts) st ≡ Some last
    → Behind t ts st last
behind t ts st last e = behind_by t ts st last (token_passed t st) refl e

-- ---- balanced

-- an end stands behind balanced tokens, and then something holds
record EndsIn (o : Opening) (ts : List ScanToken) (Q : List ScanToken → Type 0) : Type 0 where
  end : ScanToken
  us : List ScanToken
  before : BalancedTo ts (end ∷ us)
  is_end : Ends o end
  more : Q us

-- tokens that end what is open, the innermost first
abbrev EndAll : Openings → List ScanToken → Type 0
EndAll [] ts = Balanced ts
EndAll (o ∷ st) ts = EndsIn o ts (EndAll st)

-- what begins with balanced tokens in front of others
balanced_front : (st : Openings) (ts us : List ScanToken)
    → ((rest : List ScanToken) → BalancedTo ts rest → BalancedTo us rest) → EndAll st ts → EndAll st us
balanced_front [] ts us f p = f [] p
balanced_front (o ∷ st) ts us f p = record {
  end = p.end;
  us = p.us;
  before = f (p.end ∷ p.us) p.before;
  is_end = p.is_end;
  more = p.more;
}

end_step : (t : ScanToken) (ts : List ScanToken) (st after : Openings) → Steps t st after → EndAll after ts
    → EndAll st (t ∷ ts)
end_step t ts st after (stays b e) p =
    balanced_front st ts (t ∷ ts) (λ rest q. one_beside b q) (subst (λ st. EndAll st ts) (sym e) p)
end_step t ts st after (opens o a s e) p =
    let q : EndAll (o ∷ st) ts = subst (λ st. EndAll st ts) e p in
    balanced_front st q.us (t ∷ ts) (λ rest r. enclosed (q.is_end t a) q.before r) q.more
end_step t ts st after (ends o n e) p =
    subst (λ st. EndAll st (t ∷ ts)) (sym e)
    (record { end = t; us = ts; before = nothing_more; is_end = n; more = p })

end_all : (ts : List ScanToken) (st : Openings) → passed ts st ≡ Some [] → EndAll st ts
end_all [] [] e = nothing_more
end_all [] (o ∷ st) e = absurd cc
end_all (t ∷ ts) st e =
    let b = behind t ts st [] e in end_step t ts st b.after b.step (end_all ts b.after b.rest)

pub balanced : (ts : List ScanToken) → passed ts [] ≡ Some [] → Balanced ts
balanced ts e = end_all ts [] e

-- ---- fronts of balanced ones

-- tokens that end what is open as far as they go
abbrev EndSome : Openings → List ScanToken → Type 0
EndSome [] ts = BeginsBalanced ts
EndSome (o ∷ st) ts = BeginsBalanced ts ⊎ EndsIn o ts (EndSome st)

grown : (ts us : List ScanToken) → ((rest : List ScanToken) → BalancedTo ts rest → BalancedTo us rest)
    → BeginsBalanced ts → BeginsBalanced us
grown ts us f (all_ended b) = all_ended (f [] b)
grown ts us f (one_open {start = start} {us = vs} s b p) = one_open s (f (start ∷ vs) b) p

some_front : (st : Openings) (ts us : List ScanToken)
    → ((rest : List ScanToken) → BalancedTo ts rest → BalancedTo us rest) → EndSome st ts → EndSome st us
some_front [] ts us f p = grown ts us f p
some_front (o ∷ st) ts us f (inl p) = inl (grown ts us f p)
some_front (o ∷ st) ts us f (inr p) = inr (record {
  end = p.end;
  us = p.us;
  before = f (p.end ∷ p.us) p.before;
  is_end = p.is_end;
  more = p.more;
})

some_begins : (st : Openings) (ts : List ScanToken) → BeginsBalanced ts → EndSome st ts
some_begins [] ts p = p
some_begins (o ∷ st) ts p = inl p

some_step : (t : ScanToken) (ts : List ScanToken) (st after : Openings) → Steps t st after → EndSome after ts
    → EndSome st (t ∷ ts)
some_step t ts st after (stays b e) p =
    some_front st ts (t ∷ ts) (λ rest q. one_beside b q) (subst (λ st. EndSome st ts) (sym e) p)
some_step t ts st after (opens o a s e) p = on (subst (λ st. EndSome st ts) e p)
  where
    on : EndSome (o ∷ st) ts → EndSome st (t ∷ ts)
    on (inl q) = some_begins st (t ∷ ts) (one_open s nothing_more q)
    on (inr q) = some_front st q.us (t ∷ ts) (λ rest r. enclosed (q.is_end t a) q.before r) q.more
some_step t ts st after (ends o n e) p =
    subst (λ st. EndSome st (t ∷ ts)) (sym e)
    (inr (record { end = t; us = ts; before = nothing_more; is_end = n; more = p }))

some_all : (ts : List ScanToken) (st last : Openings) → passed ts st ≡ Some last → EndSome st ts
some_all [] st last e = some_begins st [] (all_ended nothing_more)
some_all (t ∷ ts) st last e =
    let b = behind t ts st last e in some_step t ts st b.after b.step (some_all ts b.after last b.rest)

pub begins_balanced : (ts : List ScanToken) (last : Openings) → passed ts [] ≡ Some last → BeginsBalanced ts
begins_balanced ts last e = some_all ts [] last e

-- ---- counts

abbrev pub blocks_in : Openings → ℕ
blocks_in [] = 0
blocks_in (OfBlock ∷ st) = suc (blocks_in st)
blocks_in (o ∷ st) = blocks_in st

abbrev Counts : ScanToken → Openings → Openings → Type 0
Counts t st after = one_more_if (ends_block t) (blocks_in after) ≡ one_more_if (starts_block t) (blocks_in st)

own_counts : (kind : LexemeKind) (st after : Openings) → kind_passed kind st ≡ Some after
    → blocks_in after ≡ blocks_in st
own_counts (Open bracket) st after e = ap blocks_in (sym (some_same (OfBracket bracket ∷ st) after e))
own_counts (Close Square) [] after e = absurd cc
own_counts (Close Curly) [] after e = absurd cc
own_counts (Close Square) (OfBlock ∷ st) after e = absurd cc
own_counts (Close Curly) (OfBlock ∷ st) after e = absurd cc
own_counts (Close Square) (OfPair ∷ st) after e = absurd cc
own_counts (Close Curly) (OfPair ∷ st) after e = absurd cc
own_counts (Close Square) (OfBracket Curly ∷ st) after e = absurd cc
own_counts (Close Curly) (OfBracket Square ∷ st) after e = absurd cc
own_counts (Close Square) (OfBracket Square ∷ st) after e = ap blocks_in (sym (some_same st after e))
own_counts (Close Curly) (OfBracket Curly ∷ st) after e = ap blocks_in (sym (some_same st after e))
own_counts kind st after e = ap blocks_in (sym (some_same st after e))

ends_counts : (st after : Openings) → ends_block_of st ≡ Some after → suc (blocks_in after) ≡ blocks_in st
ends_counts [] after e = absurd cc
ends_counts (OfBlock ∷ st) after e = ap (λ st. suc (blocks_in st)) (sym (some_same st after e))
ends_counts (OfPair ∷ st) after e = absurd cc
ends_counts (OfBracket bracket ∷ st) after e = absurd cc

pair_counts : (st after : Openings) → ends_pair_of st ≡ Some after → blocks_in after ≡ blocks_in st
pair_counts [] after e = absurd cc
pair_counts (OfPair ∷ st) after e = ap blocks_in (sym (some_same st after e))
pair_counts (OfBlock ∷ st) after e = absurd cc
pair_counts (OfBracket bracket ∷ st) after e = absurd cc

token_counts : (t : ScanToken) (st after : Openings) → token_passed t st ≡ Some after → Counts t st after
token_counts (Inserted BlockEnd m) st after e = ends_counts st after e
token_counts (Inserted BlockMappingStart m) st after e = ap blocks_in (sym (some_same (OfBlock ∷ st) after e))
token_counts (Inserted BlockSequenceStart m) st after e = ap blocks_in (sym (some_same (OfBlock ∷ st) after e))
token_counts (Inserted KeySign m) st after e = ap blocks_in (sym (some_same st after e))
token_counts (Inserted PairStart m) st after e = ap blocks_in (sym (some_same (OfPair ∷ st) after e))
token_counts (Inserted PairEnd m) st after e = pair_counts st after e
token_counts (Own x) st after e = own_counts x.kind st after e
token_counts (Noted c) st after e = ap blocks_in (sym (some_same st after e))

counts_on : (e s : Bool) (m n a b c : ℕ) → one_more_if e b ≡ one_more_if s a → m + c ≡ n + b
    → one_more_if e m + c ≡ one_more_if s n + a
counts_on true true m n a b c p q = omega (arith, p, q)
counts_on true false m n a b c p q = omega (arith, p, q)
counts_on false true m n a b c p q = omega (arith, p, q)
counts_on false false m n a b c p q = omega (arith, p, q)

counts_by : (t : ScanToken) (ts : List ScanToken) (st last : Openings) (r : Option Openings) → token_passed t st ≡ r
    → and_then r (passed ts) ≡ Some last
    → ((after : Openings) → passed ts after ≡ Some last
    → block_ends ts + blocks_in last ≡ block_starts ts + blocks_in after)
    → block_ends (t ∷ ts) + blocks_in last ≡ block_starts (t ∷ ts) + blocks_in st
counts_by t ts st last None p e more = absurd cc
counts_by t ts st last (Some after) p e more =
    counts_on (ends_block t) (starts_block t) (block_ends ts) (block_starts ts) (blocks_in st) (blocks_in after)
    (blocks_in last) (token_counts t st after p) (more after e)

counts : (ts : List ScanToken) (st last : Openings) → passed ts st ≡ Some last
    → block_ends ts + blocks_in last ≡ block_starts ts + blocks_in st
counts [] st last e = ap (λ n. 0 + n) (ap blocks_in (sym (some_same st last e)))
counts (t ∷ ts) st last e =
    counts_by t ts st last (token_passed t st) refl e (λ after f. counts ts after last f)

pub no_more_ends : (ts : List ScanToken) (last : Openings) → passed ts [] ≡ Some last
    → block_ends ts ≤ block_starts ts
no_more_ends ts last e = let c = counts ts [] last e in omega (arith, c)

pub as_many_ends : (ts : List ScanToken) → passed ts [] ≡ Some [] → block_ends ts ≡ block_starts ts
as_many_ends ts e = let c = counts ts [] [] e in omega (arith, c)
