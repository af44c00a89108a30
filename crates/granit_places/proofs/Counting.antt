-- The place that the reader keeps is counted on the whole text.
pub use Rattle.granit_reading.proofs.ReadAnswers.{read_answers}
pub use Rattle.granit_reading.proofs.Deciding.{layout_is}
use Rattle.std.proofs.Common.{◌≡◌, ℕ, zero, suc, ◌+◌, ◌-◌, ◌<◌, ◌≤◌, ◌==◌, ◌&&◌, Bool, true, false, List, [], ◌∷◌, ◌++◌}
use Rattle.std.proofs.Common.{length, take, drop, refl, sym, ap, ap₂, ◌∙◌, subst, arith, add-one, length-append}
use Rattle.std.proofs.Common.{append_assoc, Some, ◌⊎◌, inl, inr}
use Rattle.std.specs.Prelude.{if◌then◌else◌, nat_le, nat_lt}
use Rattle.std.specs.Option.{option_map}
use Rattle.std.specs.Str.{encode_utf8_all}
use Rattle.std.specs.Char.{encode_utf8}
use Rattle.std.proofs.lemmas.Str.{encodes-append}
use Rattle.std.proofs.lemmas.List.{append-nil}
use Rattle.std.proofs.lemmas.Bool.Decides.{nat_tests}
use Rattle.granit_base.specs.Place.{Place, Mark, Unread, ends_line, past_first, place_after, first}
use Rattle.granit_lexemes.specs.Here.{Here, begins_behind, tab_behind, step, mid_line, start_of}
use Rattle.granit_lexemes.specs.Moves.{steps, past_prefix_mark}
use Rattle.granit_lexemes.specs.PlainExtent.{over}
use Rattle.granit_lexemes.specs.Place.{one_more_if, line_ends, if_none, if_ends, since_line_end}
use Rattle.granit_lexemes.proofs.HereLemmas.{not_empty, stays_at_end}
use Rattle.granit_language.specs.Counting.{count_within, marks_on_line, CountedMark, AllBelow, CountedHere, MarksStand}
use Rattle.granit_language.specs.Stretch.{GapTo, ends, white, prefix_mark}

-- the rest behind a character
pub rest_behind : (x : List ℕ) (i c : ℕ) (t : List ℕ) → drop i x ≡ c ∷ t → drop (suc i) x ≡ t
rest_behind [] zero c t e = cc
rest_behind (d ∷ ds) zero c t e = cc
rest_behind [] (suc i) c t e = cc
rest_behind (d ∷ ds) (suc i) c t e = rest_behind ds i c t e

-- what stands before the next character
pub front_behind : (x : List ℕ) (i c : ℕ) (t : List ℕ) → drop i x ≡ c ∷ t → take (suc i) x ≡ take i x ++ c ∷ []
front_behind [] zero c t e = cc
front_behind (d ∷ ds) zero c t e = let q : d ≡ c = cc in ap (λ (k : ℕ). k ∷ []) q
front_behind [] (suc i) c t e = cc
front_behind (d ∷ ds) (suc i) c t e = ap (λ (ks : List ℕ). d ∷ ks) (front_behind ds i c t e)

bytes_behind : (x : List ℕ) (i c : ℕ) (t : List ℕ) → drop i x ≡ c ∷ t
    → length (encode_utf8_all (take i x)) + length (encode_utf8 c) ≡ length (encode_utf8_all (take (suc i) x))
bytes_behind x i c t e = sym (ap (λ (l : List ℕ). length (encode_utf8_all l)) (front_behind x i c t e)
    ∙ ap (length {A = ℕ}) (encodes-append (take i x) (c ∷ []))
    ∙ length-append (encode_utf8_all (take i x)) (encode_utf8_all (c ∷ []))
    ∙ ap (λ (l : List ℕ). length (encode_utf8_all (take i x)) + length l) (append-nil (encode_utf8 c)))

swapped : (a b : Bool) (n : ℕ) → one_more_if a (one_more_if b n) ≡ one_more_if b (one_more_if a n)
swapped true true n = refl
swapped true false n = refl
swapped false true n = refl
swapped false false n = refl

pub line_ends_behind : (x : List ℕ) (i c : ℕ) (t : List ℕ) → drop i x ≡ c ∷ t
    → line_ends x (suc i) ≡ one_more_if (ends_line (c ∷ t)) (line_ends x i)
line_ends_behind [] zero c t e = cc
line_ends_behind (d ∷ ds) zero c t e = ap (λ (l : List ℕ). one_more_if (ends_line l) 0) e
line_ends_behind [] (suc i) c t e = cc
line_ends_behind (d ∷ ds) (suc i) c t e = ap (one_more_if (ends_line (d ∷ ds))) (line_ends_behind ds i c t e)
    ∙ swapped (ends_line (d ∷ ds)) (ends_line (c ∷ t)) (line_ends ds i)

abbrev pub next_column : Bool → ℕ → ℕ
next_column true s = 0
next_column false s = suc s

first_column : (b : Bool) → if_ends b 0 ≡ next_column b 0
first_column true = refl
first_column false = refl

column_on : (a b : Bool) (n s i : ℕ) → if_none (one_more_if b n) (if_ends a (suc i)) (next_column b s)
    ≡ next_column b (if_none n (if_ends a i) s)
column_on a true n s i = refl
column_on true false zero s i = refl
column_on false false zero s i = refl
column_on a false (suc n) s i = refl

pub column_behind : (x : List ℕ) (i c : ℕ) (t : List ℕ) → drop i x ≡ c ∷ t
    → since_line_end x (suc i) ≡ next_column (ends_line (c ∷ t)) (since_line_end x i)
column_behind [] zero c t e = cc
column_behind (d ∷ ds) zero c t e = first_column (ends_line (d ∷ ds))
    ∙ ap (λ (l : List ℕ). next_column (ends_line l) 0) e
column_behind [] (suc i) c t e = cc
column_behind (d ∷ ds) (suc i) c t e =
    ap₂ (λ n s. if_none n (if_ends (ends_line (d ∷ ds)) (suc i)) s) (line_ends_behind ds i c t e)
    (column_behind ds i c t e)
    ∙ column_on (ends_line (d ∷ ds)) (ends_line (c ∷ t)) (line_ends ds i) (since_line_end ds i) i

-- ---- marks on a line

none_counted : (v : Bool) (from to : ℕ) (ms : List ℕ) → v ≡ false
    → one_more_if v (count_within from to ms) ≡ count_within from to ms
none_counted true from to ms e = absurd cc
none_counted false from to ms e = refl

not_from : (from to m : ℕ) → m < from → (nat_le from m && nat_lt m to) ≡ false
not_from from to m p = grind (arith, nat_tests, p)

same_within : (from i m : ℕ) → m < i → (nat_le from m && nat_lt m (suc i)) ≡ (nat_le from m && nat_lt m i)
same_within from i m p = let a : nat_lt m (suc i) ≡ true = grind (arith, nat_tests, p) in let b : nat_lt m i
    ≡ true = grind (arith, nat_tests, p) in ap (λ v. nat_le from m && v) (a ∙ sym b)

one_on : (from i : ℕ) (ms : List ℕ) → AllBelow i ms → count_within from (suc i) ms ≡ count_within from i ms
one_on from i [] b = refl
one_on from i (m ∷ ms) b = ap₂ one_more_if (same_within from i m b.0) (one_on from i ms b.1)

none_from : (i : ℕ) (ms : List ℕ) → AllBelow i ms → count_within i i ms ≡ 0
none_from i [] b = refl
none_from i (m ∷ ms) b = none_counted (nat_le i m && nat_lt m i) i i ms (not_from i i m b.0) ∙ none_from i ms b.1

below_on : (i : ℕ) (ms : List ℕ) → AllBelow i ms → AllBelow (suc i) ms
below_on i [] b = tt
below_on i (m ∷ ms) b = (let p = b.0 in omega (arith, p), below_on i ms b.1)

-- the column behind a character
column_next : (v : Bool) (i s column : ℕ) (ms : List ℕ) → AllBelow i ms → column + count_within (i - s) i ms ≡ s
    → (if v then 0 else column + 1) + count_within (suc i - next_column v s) (suc i) ms ≡ next_column v s
column_next true i s column ms b e =
    let z : suc i - 0 ≡ suc i = omega arith in
    let m : count_within (suc i - 0) (suc i) ms ≡ 0 = ap (λ from. count_within from (suc i) ms) z
    ∙ none_from (suc i) ms (below_on i ms b) in
    omega (arith, m)
column_next false i s column ms b e =
    let m : suc i - suc s ≡ i - s = omega arith in
    let n = one_on (i - s) i ms b in
    let q : count_within (suc i - suc s) (suc i) ms
    ≡ count_within (i - s) (suc i) ms = ap (λ from. count_within from (suc i) ms) m in
    omega (arith, n, e, q)

-- ---- one character on

placed_at : (c : ℕ) (t : List ℕ) (h : Here) → h.unread.text ≡ c ∷ t
    → step h ≡ record {
      unread = past_first h.unread;
      place = place_after h.unread.text h.place;
      begins_line =
          begins_behind h;
      tab = tab_behind h;
    }
unfolding step
placed_at c t h e = ap (λ b. if b then h else
    record {
      unread = past_first h.unread;
      place = place_after h.unread.text h.place;
      begins_line = begins_behind h;
      tab = tab_behind h;
    }) (ap (λ (l : List ℕ). length l == 0) e ∙ not_empty c t)

abbrev pub place_by : Bool → Place → Place
place_by v p = if v then record { index = p.index + 1; line = p.line + 1; column = 0 } else
    record { index = p.index + 1; line = p.line; column = p.column + 1 }

place_line : (v : Bool) (p : Place) → (place_by v p).line ≡ (if v then p.line + 1 else p.line)
place_line true p = refl
place_line false p = refl

place_column : (v : Bool) (p : Place) → (place_by v p).column ≡ (if v then 0 else p.column + 1)
place_column true p = refl
place_column false p = refl

pub place_index : (v : Bool) (p : Place) → (place_by v p).index ≡ p.index + 1
place_index true p = refl
place_index false p = refl

line_next : (v : Bool) (n m : ℕ) → n ≡ suc m → (if v then n + 1 else n) ≡ suc (one_more_if v m)
line_next true n m e = omega (arith, e)
line_next false n m e = e

pub stepped_on : (x ms : List ℕ) (i c : ℕ) (t : List ℕ) (h : Here) → h.unread.text ≡ c ∷ t → CountedHere x ms i h
    → CountedHere x ms (suc i) (step h)
stepped_on x ms i c t h e p =
    let d : drop i x ≡ c ∷ t = sym p.text ∙ e in
    let s = placed_at c t h e in
    let v = ends_line h.unread.text in
    let w : ends_line h.unread.text ≡ ends_line (c ∷ t) = ap ends_line e in
    record {
      text = ap (λ (h : Here). h.unread.text) s ∙ ap (drop 1) e ∙ sym (rest_behind x i c t d);
      mark = record {
        offset = ap (λ (h : Here). h.unread.offset) s
            ∙ ap (option_map (λ n. n + length (encode_utf8 (first h.unread.text)))) p.mark.offset
            ∙ ap (λ n. Some (length (encode_utf8_all (take i x)) + length (encode_utf8 n))) (ap first e)
            ∙ ap (λ (n : ℕ). Some n) (bytes_behind x i c t d);
        index = ap (λ (h : Here). h.place.index) s ∙ place_index v h.place ∙ add-one h.place.index
            ∙ ap suc p.mark.index;
        line = ap (λ (h : Here). h.place.line) s ∙ place_line v h.place
            ∙ line_next v h.place.line (line_ends x i) p.mark.line ∙ ap (λ v. suc (one_more_if v (line_ends x i))) w
            ∙ ap suc (sym (line_ends_behind x i c t d));
        column =
            let q = ap (λ (h : Here). h.place.column) s ∙ place_column v h.place in
            let r = column_next v i (since_line_end x i) h.place.column ms p.below p.mark.column in
            let n : since_line_end x (suc i) ≡ next_column v (since_line_end x i) = column_behind x i c t d
            ∙ ap (λ v. next_column v (since_line_end x i)) (sym w) in
            subst (λ n. (step h).place.column + count_within (suc i - n) (suc i) ms ≡ n) (sym n)
            (subst (λ k. k + count_within (suc i - next_column v (since_line_end x i)) (suc i) ms
            ≡ next_column v (since_line_end x i)) (sym q) r);
      };
      below = below_on i ms p.below;
    }

-- over a byte-order mark in front of a document
since_bom : (x : List ℕ) (i : ℕ) (t : List ℕ) → drop i x ≡ 0xFEFF ∷ t
    → since_line_end x (suc i) ≡ suc (since_line_end x i)
since_bom x i t e = column_behind x i 0xFEFF t e

lines_bom : (x : List ℕ) (i : ℕ) (t : List ℕ) → drop i x ≡ 0xFEFF ∷ t → line_ends x (suc i) ≡ line_ends x i
lines_bom x i t e = line_ends_behind x i 0xFEFF t e

since_within : (x : List ℕ) (i : ℕ) → since_line_end x i ≤ i
since_within x zero = omega arith
since_within [] (suc i) = omega arith
since_within (c ∷ cs) (suc i) = if_none_within (line_ends cs i) (ends_line (c ∷ cs)) i (since_line_end cs i)
    (since_within cs i)
  where
    if_none_within : (n : ℕ) (v : Bool) (i s : ℕ) → s ≤ i → if_none n (if_ends v i) s ≤ suc i
    if_none_within zero true i s p = omega arith
    if_none_within zero false i s p = omega arith
    if_none_within (suc n) v i s p = omega (arith, p)

pub marked_on : (x ms : List ℕ) (i : ℕ) (t : List ℕ) (h : Here) → h.unread.text ≡ 0xFEFF ∷ t → CountedHere x ms i h
    → CountedHere x (i ∷ ms) (suc i) (past_prefix_mark h)
unfolding past_prefix_mark
marked_on x ms i t h e p =
    let d : drop i x ≡ 0xFEFF ∷ t = sym p.text ∙ e in
    let s = since_within x i in
    let here : (nat_le (i - since_line_end x i) i && nat_lt i (suc i))
    ≡ true = let a : nat_le (i - since_line_end x i) i
    ≡ true = grind (arith, nat_tests, s) in let b : nat_lt i (suc i)
    ≡ true = grind (arith, nat_tests) in ap₂ (λ (a b : Bool). a && b) a b in
    let m : suc i - suc (since_line_end x i) ≡ i - since_line_end x i = omega arith in
    let n = one_on (i - since_line_end x i) i ms p.below in
    let q : count_within (suc i - suc (since_line_end x i)) (suc i) (i ∷ ms)
    ≡ suc (count_within (i - since_line_end x i) i ms) = ap (λ from. count_within from (suc i) (i ∷ ms)) m
    ∙ ap (λ v. one_more_if v (count_within (i - since_line_end x i) (suc i) ms)) here ∙ ap suc n in
    record {
      text = ap (drop 1) e ∙ sym (rest_behind x i 0xFEFF t d);
      mark = record {
        offset = ap (option_map (λ n. n + length (encode_utf8 (first h.unread.text)))) p.mark.offset
            ∙ ap (λ n. Some (length (encode_utf8_all (take i x)) + length (encode_utf8 n))) (ap first e)
            ∙ ap (λ (n : ℕ). Some n) (bytes_behind x i 0xFEFF t d);
        index = add-one h.place.index ∙ ap suc p.mark.index;
        line = p.mark.line ∙ ap suc (sym (lines_bom x i t d));
        column = let c = p.mark.column in subst (λ n. h.place.column + count_within (suc i - n) (suc i) (i ∷ ms) ≡ n)
            (sym (since_bom x i t d)) (omega (arith, q, c));
      };
      below = (omega arith, below_on i ms p.below);
    }

-- ---- marks further on change no count

-- all are from an index on
abbrev pub AllFrom : ℕ → List ℕ → Type 0
AllFrom i [] = Unit {0}
AllFrom i (m ∷ ms) = (i ≤ m) × AllFrom i ms

pub from_less : (i j : ℕ) (ms : List ℕ) → i ≤ j → AllFrom j ms → AllFrom i ms
from_less i j [] p q = tt
from_less i j (m ∷ ms) p q = (let a = q.0 in omega (arith, p, a), from_less i j ms p q.1)

pub from_joined : (i : ℕ) (ms ns : List ℕ) → AllFrom i ms → AllFrom i ns → AllFrom i (ms ++ ns)
from_joined i [] ns p q = q
from_joined i (m ∷ ms) ns p q = (p.0, from_joined i ms ns p.1 q)

not_to : (from to m : ℕ) → to ≤ m → (nat_le from m && nat_lt m to) ≡ false
not_to from to m p = let a : nat_lt m to ≡ false = grind (arith, nat_tests, p) in ends_and (nat_le from m) (nat_lt m to)
    a
  where
    ends_and : (v w : Bool) → w ≡ false → (v && w) ≡ false
    ends_and true w e = e
    ends_and false w e = refl

pub within_more : (from to : ℕ) (more ms : List ℕ) → AllFrom to more
    → count_within from to (more ++ ms) ≡ count_within from to ms
within_more from to [] ms p = refl
within_more from to (m ∷ more) ms p = none_counted (nat_le from m && nat_lt m to) from to (more ++ ms)
    (not_to from to m p.0) ∙ within_more from to more ms p.1

pub counted_more : (x more ms : List ℕ) (i : ℕ) (m : Mark) → AllFrom i more → CountedMark x ms i m
    → CountedMark x (more ++ ms) i m
counted_more x more ms i m p c = record {
  offset = c.offset;
  index = c.index;
  line = c.line;
  column = ap (λ n. m.place.column + n) (within_more (i - since_line_end x i) i more ms p) ∙ c.column;
}

pub stand_more : (x more ms is : List ℕ) (j : ℕ) → AllFrom j more → AllBelow j is → MarksStand x ms is
    → MarksStand x (more ++ ms) is
stand_more x more ms [] j p b s = tt
stand_more x more ms (i ∷ is) j p b s =
    let l = b.0 in (
      s.0,
      within_more (i - since_line_end x i) i more ms (from_less i j more (omega (arith, l)) p)
          ∙ s.1,
      stand_more x more ms is j p b.1 s.2,
    )

-- ---- moves

-- a place at an index of a text
pub record At (x : List ℕ) (h : Here) : Type 0 where
  pub marks : List ℕ
  pub index : ℕ
  pub here : CountedHere x marks index h
  pub stand : MarksStand x marks marks

-- on a later line, or further on the same one
abbrev pub Ahead : Place → Place → Type 0
Ahead p q = (p.line < q.line) ⊎ ((p.line ≡ q.line) × (p.column ≤ q.column))

pub ahead_self : (p : Place) → Ahead p p
ahead_self p = inr (refl, omega arith)

pub ahead_then : (p q r : Place) → Ahead p q → Ahead q r → Ahead p r
ahead_then p q r (inl a) (inl b) = inl (omega (arith, a, b))
ahead_then p q r (inl a) (inr b) = let e = b.0 in inl (omega (arith, a, e))
ahead_then p q r (inr a) (inl b) = let e = a.0 in inl (omega (arith, b, e))
ahead_then p q r (inr a) (inr b) = let c = a.1 in let d = b.1 in inr (a.0 ∙ b.0, omega (arith, c, d))

place_ahead : (v : Bool) (p : Place) → Ahead p (place_by v p)
place_ahead true p = inl (omega arith)
place_ahead false p = inr (refl, omega arith)

step_ahead : (c : ℕ) (t : List ℕ) (h : Here) → h.unread.text ≡ c ∷ t → Ahead h.place (step h).place
step_ahead c t h e = subst (Ahead h.place) (sym (ap (λ (h : Here). h.place) (placed_at c t h e)))
    (place_ahead (ends_line h.unread.text) h.place)

mark_ahead : (h : Here) → Ahead h.place (past_prefix_mark h).place
unfolding past_prefix_mark
mark_ahead h = inr (refl, omega arith)

-- a place further on, with more marks
pub record Further (x : List ℕ) (h : Here) (a : At x h) (g : Here) : Type 0 where
  pub place : At x g
  pub more : List ℕ
  pub marks : place.marks ≡ more ++ a.marks
  pub beyond : AllFrom a.index more
  pub index : a.index ≤ place.index
  pub ahead : Ahead h.place g.place

abbrev pub MovesTo : List ℕ → Here → Here → Type 0
MovesTo x h g = (a : At x h) → Further x h a g

module _ (x : List ℕ) where
  pub stay : (h : Here) → MovesTo x h h
  stay h a = record { place = a; more = []; marks = refl; beyond = tt; index = omega arith; ahead = ahead_self h.place }

  unfoldable pub further_then : {h g k : Here} (a : At x h) (b : Further x h a g) → Further x g b.place k
      → Further x h a k
  further_then {h = h} {g = g} {k = k} a b c =
      let p = b.index in let q = c.index in
      record {
        place = c.place;
        more = c.more ++ b.more;
        marks = c.marks ∙ ap (λ (l : List ℕ). c.more ++ l) b.marks ∙ sym (append_assoc c.more b.more a.marks);
        beyond = from_joined a.index c.more b.more (from_less a.index b.place.index c.more p c.beyond) b.beyond;
        index = omega (arith, p, q);
        ahead = ahead_then h.place g.place k.place b.ahead c.ahead;
      }

  pub move_then : {h g k : Here} → MovesTo x h g → MovesTo x g k → MovesTo x h k
  move_then f t a = further_then a (f a) (t (f a).place)

  pub move_as : {h g k : Here} → k ≡ g → MovesTo x h g → MovesTo x h k
  move_as {h = h} e f = subst (MovesTo x h) (sym e) f

  step_on : (h : Here) (t : List ℕ) → h.unread.text ≡ t → MovesTo x h (step h)
  step_on h [] e = move_as (stays_at_end h e) (stay h)
  step_on h (k ∷ t) e = λ a. record {
    place =
        record {
          marks = a.marks;
          index = suc a.index;
          here = stepped_on x a.marks a.index k t h e a.here;
          stand =
              a.stand;
        };
    more = [];
    marks = refl;
    beyond = tt;
    index = omega arith;
    ahead = step_ahead k t h e;
  }

  pub to_step : (h : Here) → MovesTo x h (step h)
  to_step h = step_on h h.unread.text refl

  pub to_steps : (n : ℕ) (h : Here) → MovesTo x h (steps n h)
  unfolding steps
  to_steps zero h = stay h
  to_steps (suc n) h = move_then (to_step h) (to_steps n (step h))

  pub to_over : (cs : List ℕ) (h : Here) → MovesTo x h (over cs h)
  to_over [] h = stay h
  to_over (c ∷ cs) h = move_then (to_step h) (to_over cs (step h))

  -- the same place but for what stands before it on its line
  pub to_place : (h g : Here) → mid_line h ≡ mid_line g → MovesTo x h g
  to_place h g e a =
      let u = ap (λ (h : Here). h.unread) e in
      let p = ap (λ (h : Here). h.place) e in
      let c = a.here.mark in
      record {
        place = record {
          marks = a.marks;
          index = a.index;
          here =
              record {
                text = ap (λ (u : Unread). u.text) (sym u)
                    ∙ a.here.text;
                mark = subst (λ (m : Mark). CountedMark x a.marks a.index m)
                    (ap₂ (λ (p : Place) (u : Unread). record { place = p; byte_offset = u.offset }) p u) c;
                below =
                    a.here.below;
              };
          stand = a.stand;
        };
        more = [];
        marks = refl;
        beyond = tt;
        index = omega arith;
        ahead = subst (Ahead h.place) p (ahead_self h.place);
      }

  -- over a byte-order mark in front of a document
  to_mark : (h : Here) (t : List ℕ) → h.unread.text ≡ 0xFEFF ∷ t → h.place.column ≡ 0 → MovesTo x h (past_prefix_mark h)
  to_mark h t e column a =
      let c = a.here.mark.column in
      let n : marks_on_line x a.marks a.index ≡ since_line_end x a.index = omega (arith, c, column) in
      let from : AllFrom a.index (a.index ∷ []) = (omega arith, tt) in
      record {
        place = record {
          marks = a.index ∷ a.marks;
          index = suc a.index;
          here = marked_on x a.marks a.index t h e a.here;
          stand = (
            ap first (sym a.here.text ∙ e),
            within_more (a.index - since_line_end x a.index) a.index (a.index ∷ []) a.marks from ∙ n,
            stand_more x (a.index ∷ []) a.marks a.marks a.index from a.here.below a.stand,
          );
        };
        more = a.index ∷ [];
        marks = refl;
        beyond = from;
        index = omega arith;
        ahead = mark_ahead h;
      }

  pub to_gap : {may : Type 0} {h after : Here} {cs : List ℕ} → GapTo may h cs after → MovesTo x h after
  to_gap ends = stay _
  to_gap (white {h = h} e w g) = move_then (to_step h) (to_gap g)
  to_gap (prefix_mark {h = h} may column e g) = move_then (to_mark h _ e column) (to_gap g)

  pub start_at : At x (start_of x)
  start_at = record {
    marks = [];
    index = 0;
    here =
        record {
          text = whole x;
          mark = record { offset = refl; index = refl; line = refl; column = refl };
          below =
              tt;
        };
    stand = tt;
  }
    where
      whole : (x : List ℕ) → x ≡ drop 0 x
      whole [] = refl
      whole (c ∷ cs) = refl
