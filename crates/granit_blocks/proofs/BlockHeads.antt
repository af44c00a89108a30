-- The header of a block scalar and what stands behind it on its line, as the plain function reads them.
pub use Rattle.granit_quoted_laws.proofs.QuotedCauses.{quoted_cause_refused}
use Rattle.std.proofs.Common.{◌≡◌, ℕ, ◌-◌, ◌==◌, Bool, true, false, ◌&&◌, ◌||◌, not, List, [], ◌∷◌, ◌++◌, length}
use Rattle.std.proofs.Common.{Option, Some, None, Result, Ok, Err, refl, sym, ap, ap₂, ◌∙◌, subst, arith}
use Rattle.std.specs.Prelude.{if◌then◌else◌, is_none}
use Rattle.std.proofs.lemmas.Bool.{and_parts, eqb-true}
use Rattle.std.proofs.lemmas.Bool.Decides.{nat_tests}
use Rattle.std.proofs.lemmas.List.{length-append}
use Rattle.granit_base.specs.Classes.{is_blank, is_digit, is_within}
use Rattle.granit_base.specs.Place.{Mark, first}
use Rattle.granit_error.specs.FaultKind.{FaultKind, ZeroBlockScalarIndent, CommentNotSeparated}
use Rattle.granit_lexemes.proofs.CharTests.{hash_no_blank}
use Rattle.granit_lexemes.specs.Comment.{CommentRead, comment, StandsComment, Spoils, ReadsComment}
use Rattle.granit_lexemes.specs.Gap.{Each}
use Rattle.granit_lexemes.specs.Here.{Here, next_char, mark_of, step, past}
use Rattle.granit_lexemes.specs.Outcome.{Fault, fault_at, ◌>>=◌}
use Rattle.granit_lexemes.specs.PlainExtent.{over, starts_comment}
use Rattle.granit_lexemes.specs.Basics.{fails_at, count_up_to}
use Rattle.granit_lexemes.specs.QuotedExtent.{BlanksBehind}
use Rattle.granit_quoted_laws.proofs.QuotedLaw.{with_note}
pub use Rattle.granit_quoted_laws.proofs.QuotedTail.{comment_answered, comment_reads}
use Rattle.granit_quoted_laws.proofs.QuotedCauses.{comment_none}
use Rattle.granit_quoted_laws.proofs.QuotedOnce.{over_text}
use Rattle.granit_lexemes.specs.BlockHeader.{Chomping, Strip, Keep, BlockHeader, header_sign, block_header}
use Rattle.granit_lexemes.specs.BlockMoves.{Crosses}
use Rattle.granit_lexemes.specs.HeaderExtent.{plus, minus, no_indicators, Indicator, takes_sign, takes_digit}
use Rattle.granit_lexemes.specs.HeaderExtent.{takes_none, HeaderStands, HeaderFront, at_first, at_second, LexemeTail}
use Rattle.granit_lexemes.specs.HeaderExtent.{commented, uncommented}
use Rattle.granit_lexemes.specs.Tail.{tail_behind, tail_at}
use Rattle.granit_blocks.proofs.Moving.{Past, past_reads, past_is}
use Rattle.granit_quoted_laws.proofs.QuotedTail.{is_blank_nul}

-- ---- the header

abbrev pub sign_on : Mark → BlockHeader → Here → (p m d z : Bool) → Result (BlockHeader × Here) Fault
sign_on start b h p m d z =
    if p then Ok (record b { chomping = Some Keep }, step h)
    else if m then Ok (record b { chomping = Some Strip }, step h)
    else if d then (if z then fails_at ZeroBlockScalarIndent start else Ok
    (record b { digit = Some (next_char h - 0x30) }, step h))
    else Ok (b, h)

pub header_sign_is : (start : Mark) (b : BlockHeader) (h : Here)
    → header_sign start b h ≡ sign_on start b h (next_char h == 0x2B && is_none b.chomping)
    (next_char h == 0x2D && is_none b.chomping) (is_digit (next_char h) && is_none b.digit) (next_char h == 0x30)
unfolding header_sign
header_sign_is start b h = refl

abbrev pub SignReads : Mark → BlockHeader → Here → Result (BlockHeader × Here) Fault → Type 0
SignReads start b h (Ok (c, g)) = Indicator b h c g
SignReads start b h (Err f) = (f ≡ fault_at ZeroBlockScalarIndent start) × (b.digit ≡ None) × (next_char h ≡ 0x30)

none_is : {A : Type 0} (o : Option A) → is_none o ≡ true → o ≡ None
none_is None y = refl
none_is (Some a) y = absurd cc

no_sign_left : (p m n : Bool) → (p && n) ≡ false → (m && n) ≡ false → (n && (p || m)) ≡ false
no_sign_left p m false e f = refl
no_sign_left true m true e f = absurd cc
no_sign_left false true true e f = absurd cc
no_sign_left false false true e f = refl

turned_round : (a b : Bool) → (a && b) ≡ false → (b && a) ≡ false
turned_round true true e = absurd cc
turned_round true false e = refl
turned_round false true e = refl
turned_round false false e = refl

one_to_nine : (c : ℕ) → is_digit c ≡ true → (c == 0x30) ≡ false → is_within 0x31 0x39 c ≡ true
unfolding is_digit
one_to_nine c y n = grind (arith, nat_tests)

sign_reads_on : (start : Mark) (b : BlockHeader) (h : Here) → (p m d z : Bool)
    → (next_char h == 0x2B && is_none b.chomping) ≡ p → (next_char h == 0x2D && is_none b.chomping) ≡ m
    → (is_digit (next_char h) && is_none b.digit) ≡ d → (next_char h == 0x30) ≡ z
    → SignReads start b h (sign_on start b h p m d z)
sign_reads_on start b h true m d z e f g i = let x = and_parts (next_char h == 0x2B) (is_none b.chomping)
    e in takes_sign Keep (none_is b.chomping x.1) (plus (eqb-true (next_char h) 0x2B x.0))
sign_reads_on start b h false true d z e f g i = let x = and_parts (next_char h == 0x2D) (is_none b.chomping)
    f in takes_sign Strip (none_is b.chomping x.1) (minus (eqb-true (next_char h) 0x2D x.0))
sign_reads_on start b h false false true true e f g i = let x = and_parts (is_digit (next_char h)) (is_none b.digit)
    g in (refl, none_is b.digit x.1, eqb-true (next_char h) 0x30 i)
sign_reads_on start b h false false true false e f g i = let x = and_parts (is_digit (next_char h)) (is_none b.digit)
    g in takes_digit (none_is b.digit x.1) (one_to_nine (next_char h) x.0 i)
sign_reads_on start b h false false false z e f g i = takes_none
    (no_sign_left (next_char h == 0x2B) (next_char h == 0x2D) (is_none b.chomping) e f)
    (turned_round (is_digit (next_char h)) (is_none b.digit) g)

sign_reads : (start : Mark) (b : BlockHeader) (h : Here) → SignReads start b h (header_sign start b h)
sign_reads start b h = subst (SignReads start b h) (sym (header_sign_is start b h))
    (sign_reads_on start b h _ _ _ _ refl refl refl refl)

-- a digit 0 where a digit may stand
pub record ZeroAt (h : Here) : Type 0 where
  pub before : BlockHeader
  pub place : Here
  pub front : HeaderFront h before place
  pub no_digit : before.digit ≡ None
  pub is_zero : next_char place ≡ 0x30

abbrev pub HeaderReads : Here → Result (BlockHeader × Here) Fault → Type 0
HeaderReads h (Ok (header, after)) = HeaderStands h header after
HeaderReads h (Err f) = (f ≡ fault_at ZeroBlockScalarIndent (mark_of h)) × ZeroAt h

later_reads : (h : Here) (once : BlockHeader) (middle : Here) → Indicator no_indicators (step h) once middle
    → (r : Result (BlockHeader × Here) Fault) → SignReads (mark_of h) once middle r → HeaderReads h r
later_reads h once middle e (Ok (header, after)) l = record { once = once; middle = middle; earlier = e; later = l }
later_reads h once middle e (Err f) l = (
  l.0,
  record { before = once; place = middle; front = at_second e; no_digit = l.1; is_zero = l.2 },
)

earlier_reads : (h : Here) (r : Result (BlockHeader × Here) Fault) → SignReads (mark_of h) no_indicators (step h) r
    → HeaderReads h (r >>= λ x. header_sign (mark_of h) x.0 x.1)
earlier_reads h (Ok (once, middle)) e = later_reads h once middle e (header_sign (mark_of h) once middle)
    (sign_reads (mark_of h) once middle)
earlier_reads h (Err f) e = (
  e.0,
  record {
    before = no_indicators;
    place = step h;
    front = at_first;
    no_digit = e.1;
    is_zero = e.2;
  },
)

pub header_reads : (h : Here) → HeaderReads h (block_header h)
unfolding block_header
header_reads h = earlier_reads h (header_sign (mark_of h) no_indicators (step h))
    (sign_reads (mark_of h) no_indicators (step h))

no_indicator : (c : ℕ) → is_within 0x31 0x39 c ≡ true
    → ((c == 0x2B) ≡ false) × ((c == 0x2D) ≡ false) × (is_digit c ≡ true) × ((c == 0x30) ≡ false)
unfolding is_digit
no_indicator c w = (
  grind (arith, nat_tests),
  grind (arith, nat_tests),
  grind (arith, nat_tests),
  grind
      (arith, nat_tests),
)

parts_no : (p m n : Bool) → (n && (p || m)) ≡ false → ((p && n) ≡ false) × ((m && n) ≡ false)
parts_no p m true e = let x = split p m e in x
  where
    split : (p m : Bool) → (p || m) ≡ false → ((p && true) ≡ false) × ((m && true) ≡ false)
    split true m e = absurd cc
    split false true e = absurd cc
    split false false e = (refl, refl)
parts_no p m false e = (no_and p, no_and m)
  where
    no_and : (b : Bool) → (b && false) ≡ false
    no_and true = refl
    no_and false = refl

pub sign_is : (start : Mark) (b : BlockHeader) (h : Here) (c : BlockHeader) (g : Here) → Indicator b h c g
    → header_sign start b h ≡ Ok (c, g)
sign_is start b h c g (takes_sign x n (plus e)) = header_sign_is start b h
    ∙ ap (λ (v : Bool). sign_on start b h v (next_char h == 0x2D && is_none b.chomping)
    (is_digit (next_char h) && is_none b.digit) (next_char h == 0x30))
    (ap₂ (λ (k : ℕ) (o : Option Chomping). k == 0x2B && is_none o) e n)
sign_is start b h c g (takes_sign x n (minus e)) =
    header_sign_is start b h
    ∙ ap₂ (λ (v w : Bool). sign_on start b h v w (is_digit (next_char h) && is_none b.digit) (next_char h == 0x30))
    (ap (λ (k : ℕ). k == 0x2B && is_none b.chomping) e)
    (ap₂ (λ (k : ℕ) (o : Option Chomping). k == 0x2D && is_none o) e n)
sign_is start b h c g (takes_digit n w) =
    let k = no_indicator (next_char h) w in
    header_sign_is start b h
    ∙ ap₂ (λ (v u : Bool). sign_on start b h (v && is_none b.chomping) (u && is_none b.chomping)
    (is_digit (next_char h) && is_none b.digit) (next_char h == 0x30)) k.0 k.1
    ∙ ap₂ (λ (v : Bool) (o : Option ℕ). sign_on start b h false false (v && is_none o) (next_char h == 0x30)) k.2 n
    ∙ ap (sign_on start b h false false true) k.3
sign_is start b h c g (takes_none s d) =
    let k = parts_no (next_char h == 0x2B) (next_char h == 0x2D) (is_none b.chomping) s in
    header_sign_is start b h
    ∙ ap₂ (λ (v u : Bool). sign_on start b h v u (is_digit (next_char h) && is_none b.digit) (next_char h == 0x30)) k.0
    k.1
    ∙ ap (λ (v : Bool). sign_on start b h false false v (next_char h == 0x30))
    (turned_round (is_none b.digit) (is_digit (next_char h)) d)

pub header_is : (h : Here) (header : BlockHeader) (after : Here) → HeaderStands h header after
    → block_header h ≡ Ok (header, after)
unfolding block_header
header_is h header after p =
    ap (λ (r : Result (BlockHeader × Here) Fault). r >>= λ x. header_sign (mark_of h) x.0 x.1)
    (sign_is (mark_of h) no_indicators (step h) p.once p.middle p.earlier)
    ∙ sign_is (mark_of h) p.once p.middle header after p.later

-- ---- the tail

abbrev pub tail_on : Here → (hash near : Bool) → Result (Option CommentRead × Here) Fault
tail_on g hash near =
    if not hash then Ok (None, g)
    else if near then fails_at CommentNotSeparated (mark_of g)
    else with_note (comment g)

pub tail_at_is : (h : Here) → tail_at h ≡ tail_on (past is_blank h) (next_char (past is_blank h) == 0x23)
    (count_up_to h (past is_blank h) == 0)
unfolding tail_behind
tail_at_is h = refl

pub data TailWrong (h : Here) : FaultKind → Mark → Type 0 where
  touches : next_char h ≡ 0x23 → TailWrong h CommentNotSeparated (mark_of h)
  spoils : {kind : FaultKind} {m : Mark} (b : ℕ) (blanks rest : List ℕ) → BlanksBehind h (b ∷ blanks) rest
      → Spoils (over (b ∷ blanks) h) kind m → TailWrong h kind m

abbrev pub TailReads : Here → Result (Option CommentRead × Here) Fault → Type 0
TailReads h (Ok (noted, after)) = LexemeTail h noted after
TailReads h (Err f) = TailWrong h f.kind f.mark × (f.sources ≡ [])

commented_reads : (h g : Here) (b : ℕ) (blanks : List ℕ) → BlanksBehind h (b ∷ blanks) g.unread.text
    → g ≡ over (b ∷ blanks) h → (next_char g == 0x23) ≡ true → (r : Result (CommentRead × Here) Fault) → comment g ≡ r
    → ReadsComment g r → TailReads h (with_note r)
commented_reads h g b blanks p lands y (Ok (c, after)) e read = commented b blanks g.unread.text c p y
    (subst (λ (i : Here). StandsComment i c after) lands read)
commented_reads h g b blanks p lands y (Err f) e read = (
  spoils b blanks g.unread.text p (subst (λ (i : Here). Spoils i f.kind f.mark) lands read),
  (comment_none g).none f
      e,
)

-- as many characters as stand between two places
count_of : (h : Here) (cs : List ℕ) (after : Here) → Crosses h cs after → count_up_to h after ≡ length cs
count_of h cs after s =
    let t = after.unread.text in
    let n : length (cs ++ t) - length t ≡ length cs = omega (arith, length-append cs t) in
    ap (λ (l : List ℕ). length l - length t) s.text ∙ n

hash_reads : (h g : Here) (cs : List ℕ) → Crosses h cs g → Each is_blank cs → is_blank (next_char g) ≡ false
    → (hash near : Bool) → (next_char g == 0x23) ≡ hash → (count_up_to h g == 0) ≡ near
    → TailReads h (tail_on g hash near)
hash_reads h g cs s each n false near y e = uncommented cs g.unread.text
    (record { whole = s.text; each = each; all = n }) y s.lands
hash_reads h g [] s each n true true y e = (
  subst (λ (i : Here). TailWrong h CommentNotSeparated (mark_of i))
      (sym s.lands) (touches (ap first s.text ∙ eqb-true (next_char g) 0x23 y)),
  refl,
)
hash_reads h g (b ∷ blanks) s each n true true y e = absurd
    (let k = count_of h (b ∷ blanks) g s in grind (arith, nat_tests))
hash_reads h g [] s each n true false y e = absurd (let k = count_of h [] g s in grind (arith, nat_tests))
hash_reads h g (b ∷ blanks) s each n true false y e = commented_reads h g b blanks
    (record { whole = s.text; each = each; all = n }) s.lands y (comment g) refl
    (comment_reads g (eqb-true (next_char g) 0x23 y))

tail_of : (h g : Here) → Past is_blank h g → TailReads h (tail_on g (next_char g == 0x23) (count_up_to h g == 0))
tail_of h g p = hash_reads h g p.characters p.spans p.each p.stops (next_char g == 0x23) (count_up_to h g == 0) refl
    refl

pub tail_reads : (h : Here) → TailReads h (tail_at h)
tail_reads h = subst (TailReads h) (sym (tail_at_is h))
    (tail_of h (past is_blank h) (past_reads is_blank is_blank_nul h))

-- blanks lead there
blanks_cross : (h : Here) (blanks rest : List ℕ) → BlanksBehind h blanks rest → Crosses h blanks (over blanks h)
blanks_cross h blanks rest p = record {
  text = p.whole
      ∙ ap (λ (t : List ℕ). blanks ++ t) (sym (over_text blanks rest h p.whole));
  lands = refl;
}

pub some_between : (h : Here) (b : ℕ) (blanks rest : List ℕ) → BlanksBehind h (b ∷ blanks) rest
    → (count_up_to h (over (b ∷ blanks) h) == 0) ≡ false
some_between h b blanks rest p = let k = count_of h (b ∷ blanks) (over (b ∷ blanks) h)
    (blanks_cross h (b ∷ blanks) rest p) in grind (arith, nat_tests)

pub tail_past : (h : Here) (blanks rest : List ℕ) → BlanksBehind h blanks rest
    → tail_at h ≡ tail_on (over blanks h) (starts_comment rest) (count_up_to h (over blanks h) == 0)
tail_past h blanks rest p =
    let there = over_text blanks rest h p.whole in
    tail_at_is h
    ∙ ap (λ (g : Here). tail_on g (next_char g == 0x23) (count_up_to h g == 0))
    (past_is is_blank is_blank_nul blanks h (over blanks h) (blanks_cross h blanks rest p) p.each
    (ap (λ (t : List ℕ). is_blank (first t)) there ∙ p.all))
    ∙ ap (λ (t : List ℕ). tail_on (over blanks h) (first t == 0x23) (count_up_to h (over blanks h) == 0)) there

-- a `#` directly behind the header
pub tail_touched : (h : Here) → next_char h ≡ 0x23 → tail_at h ≡ Err (fault_at CommentNotSeparated (mark_of h))
tail_touched h e =
    let p : BlanksBehind h [] h.unread.text = record { whole = refl; each = tt; all = hash_no_blank (next_char h) e } in
    tail_past h [] h.unread.text p
    ∙ ap (λ (c : ℕ). tail_on h (c == 0x23) (count_up_to h h == 0)) e
    ∙ ap (tail_on h true) (let k : count_up_to h h ≡ 0 = omega arith in ap (λ (m : ℕ). m == 0) k)

pub tail_is : (h : Here) (noted : Option CommentRead) (after : Here) → LexemeTail h noted after
    → tail_at h ≡ Ok (noted, after)
tail_is h noted after (commented b blanks rest c p y stands) =
    tail_past h (b ∷ blanks) rest p
    ∙ ap₂ (tail_on (over (b ∷ blanks) h)) y (some_between h b blanks rest p)
    ∙ ap with_note (comment_answered (over (b ∷ blanks) h) c after stands)
tail_is h noted after (uncommented blanks rest p n lands) =
    tail_past h blanks rest p
    ∙ ap (λ (hash : Bool). tail_on (over blanks h) hash (count_up_to h (over blanks h) == 0)) n
    ∙ ap (λ (g : Here). Ok (None, g)) (sym lands)
