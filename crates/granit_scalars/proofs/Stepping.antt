-- How a reader moves on over characters, blanks and breaks.
use Rattle.std.proofs.Common.{◌≡◌, ℕ, ◌+◌, ◌<◌, ◌==◌, Bool, true, false, cond, not, ◌&&◌, ◌||◌, List, [], ◌∷◌, ◌++◌}
use Rattle.std.proofs.Common.{length, drop, refl, sym, ap, ap₂, ◌∙◌, arith}
use Rattle.std.specs.Prelude.{slice_index, if◌then◌else◌}
use Rattle.std.proofs.lemmas.Bool.Decides.{nat_tests}
use Rattle.granit_base.specs.Classes.{is_break}
use Rattle.granit_base.specs.Place.{Place, first, past_first, ends_line, place_after}
use Rattle.granit_lexemes.proofs.CharTests.{break_gap, is_break_lf}
use Rattle.granit_lexemes.specs.Folding.{before_lines, lines_of}
use Rattle.granit_lexemes.specs.Here.{Here, text_len, next_char, begins_behind, tab_behind, step}
use Rattle.granit_lexemes.specs.PlainExtent.{UpToBreak, at_break, before_break, over}
use Rattle.granit_lexemes.specs.Basics.{past_break}
use Rattle.granit_lexemes.proofs.HereLemmas.{not_empty, step_text, step_len, step_lends, no_line_end}
use Rattle.granit_scalars.proofs.Folding.{IsBreak}

pub over-append : (a b : List ℕ) (h : Here) → over (a ++ b) h ≡ over b (over a h)
over-append [] b h = refl
over-append (c ∷ a) b h = over-append a b (step h)

-- what follows is lent where this is
pub over_lends : (cs : List ℕ) (h : Here) → (over cs h).unread.lends ≡ h.unread.lends
over_lends [] h = refl
over_lends (c ∷ cs) h = over_lends cs (step h) ∙ step_lends h

-- a character that is there, and what stands behind it
pub record Seen (h : Here) : Type 0 where
  pub is : h.unread.text ≡ next_char h ∷ (step h).unread.text

-- a text that begins with a character
pub seen_as : (h : Here) (c : ℕ) (t : List ℕ) → h.unread.text ≡ c ∷ t → Seen h
seen_as h c t e = record {
  is = e ∙ ap₂ (λ n (l : List ℕ). n ∷ l) (sym (ap first e))
      (sym (step_text h ∙ ap (drop 1) e));
}

seen_in : (text : List ℕ) (h : Here) (test : ℕ → Bool) → h.unread.text ≡ text → test 0 ≡ false
    → test (next_char h) ≡ true → Seen h
seen_in [] h test e nul held = absurd (let gone : test (next_char h)
    ≡ test 0 = ap (λ (t : List ℕ). test (first t)) e in cc)
seen_in (c ∷ t) h test e nul held = seen_as h c t e

-- a character that passes a test that NUL doesn't pass
pub seen : (test : ℕ → Bool) (h : Here) → test 0 ≡ false → test (next_char h) ≡ true → Seen h
seen test h nul held = seen_in h.unread.text h test refl nul held

there : (h : Here) → Seen h → (length h.unread.text == 0) ≡ false
there h s = ap (λ (l : List ℕ). length l == 0) s.is ∙ not_empty (next_char h) (step h).unread.text

pub shorter : (h : Here) → Seen h → text_len (step h) < text_len h
shorter h s = let n = there h s in grind (arith, nat_tests, step_len h)

placed : (h : Here) → Seen h → (step h).place ≡ place_after h.unread.text h.place
unfolding step
placed h s = ap (λ b. (cond b h record {
  unread = past_first h.unread;
  place = place_after h.unread.text h.place;
  begins_line = begins_behind h;
  tab = tab_behind h;
}).place) (there h s)

column_of : (p : Place) (text : List ℕ) (b : Bool) → ends_line text ≡ b
    → (place_after text p).column ≡ cond b 0 (p.column + 1)
column_of p text true e = ap (λ b. (cond {A = Place} b record { index = p.index + 1; line = p.line + 1; column = 0 }
    record { index = p.index + 1; line = p.line; column = p.column + 1 }).column) e
column_of p text false e = ap (λ b. (cond {A = Place} b record { index = p.index + 1; line = p.line + 1; column = 0 }
    record { index = p.index + 1; line = p.line; column = p.column + 1 }).column) e

-- a character that is no break takes a column
pub column_on : (h : Here) → Seen h → is_break (next_char h) ≡ false → (step h).place.column ≡ h.place.column + 1
column_on h s n =
    let e : ends_line h.unread.text ≡ false = ap ends_line s.is ∙ no_line_end (next_char h) (step h).unread.text n in
    ap (λ (p : Place). p.column) (placed h s) ∙ column_of h.place h.unread.text false e

-- a line's end leads to column 0
pub column_zero : (h : Here) → Seen h → ends_line h.unread.text ≡ true → (step h).place.column ≡ 0
column_zero h s e = ap (λ (p : Place). p.column) (placed h s) ∙ column_of h.place h.unread.text true e

-- ---- breaks

-- a break and what stands behind it
pub record Broken (h after : Here) : Type 0 where
  pub characters : List ℕ
  pub up : UpToBreak characters
  pub text : h.unread.text ≡ characters ++ after.unread.text
  pub is : after ≡ over characters h
  pub column : after.place.column ≡ 0
  pub shortens : text_len after < text_len h
  pub head : (t : List ℕ) → first (characters ++ t) ≡ next_char h
  pub breaks : (t : List ℕ) → first t ≡ next_char after → IsBreak characters t

pub line_ends_as : (p q r : Bool) → (p || q) ≡ true → (q && r) ≡ false → (p || (q && not r)) ≡ true
line_ends_as true q r e f = refl
line_ends_as false true true e f = cc
line_ends_as false true false e f = refl
line_ends_as false false r e f = cc

ends_line_as : (c : ℕ) (t : List ℕ) → is_break c ≡ true → (c == 0x0D && first t == 0x0A) ≡ false
    → ends_line (c ∷ t) ≡ true
unfolding is_break
ends_line_as c t y n = line_ends_as (c == 0x0A) (c == 0x0D) (first t == 0x0A) y n

one_break : (c : ℕ) (t : List ℕ) → ends_line (c ∷ t) ≡ true → IsBreak (c ∷ []) t
one_break c t e = ap (λ b. before_lines b (is_break c) c (lines_of t)) e

-- what a character ends depends on the next one alone
ends_line_same : (c : ℕ) (t u : List ℕ) → first t ≡ first u → ends_line (c ∷ u) ≡ ends_line (c ∷ t)
ends_line_same c t u e = ap (λ n. c == 0x0A || (c == 0x0D && not (n == 0x0A))) (sym e)

two_break : (t : List ℕ) → IsBreak (0x0D ∷ 0x0A ∷ []) t
unfolding is_break
two_break t = refl

is_break_cr : is_break 0x0D ≡ true
unfolding is_break
is_break_cr = refl

pub is_break_nul : is_break 0 ≡ false
unfolding is_break
is_break_nul = refl

pub second_of : (h : Here) → Seen h → slice_index h.unread.text 1 ≡ next_char (step h)
second_of h s = ap (λ (l : List ℕ). slice_index l 1) s.is

broken_if : (h : Here) → Seen h → is_break (next_char h) ≡ true → (b : Bool)
    → (next_char h == 0x0D && slice_index h.unread.text 1 == 0x0A) ≡ b → Broken h (if b then step (step h) else step h)
broken_if h s y true e =
    let cr : next_char h ≡ 0x0D = grind (arith, nat_tests) in
    let second : slice_index h.unread.text 1 ≡ 0x0A = grind (arith, nat_tests) in
    let lf : next_char (step h) ≡ 0x0A = sym (second_of h s) ∙ second in
    let t = seen is_break (step h) is_break_nul (ap is_break lf ∙ is_break_lf) in
    record {
      characters = 0x0D ∷ 0x0A ∷ [];
      up = before_break (break_gap 0x0D is_break_cr) (at_break is_break_lf);
      text = s.is ∙ ap₂ (λ n (l : List ℕ). n ∷ l) cr t.is ∙ ap (λ n. 0x0D ∷ n ∷ (step (step h)).unread.text) lf;
      is = refl;
      column = column_zero (step h) t (ap ends_line t.is ∙ ap (λ n. ends_line (n ∷ (step (step h)).unread.text)) lf);
      shortens = let a = shorter h s in let b = shorter (step h) t in omega arith;
      head = λ u. sym cr;
      breaks = λ u first_is. two_break u;
    }
broken_if h s y false e =
    let single : (next_char h == 0x0D && next_char (step h) == 0x0A)
    ≡ false = ap (λ n. next_char h == 0x0D && n == 0x0A) (sym (second_of h s)) ∙ e in
    let line : ends_line (next_char h ∷ (step h).unread.text)
    ≡ true = ends_line_as (next_char h) (step h).unread.text y single in
    record {
      characters = next_char h ∷ [];
      up = at_break y;
      text = s.is;
      is = refl;
      column = column_zero h s (ap ends_line s.is ∙ line);
      shortens = shorter h s;
      head = λ u. refl;
      breaks = λ u first_is. one_break (next_char h) u
          (ends_line_same (next_char h) (step h).unread.text u (sym first_is) ∙ line);
    }

-- a break is taken whole
pub broken : (h : Here) → is_break (next_char h) ≡ true → Broken h (past_break h)
unfolding past_break
broken h y = broken_if h (seen is_break h is_break_nul y) y (next_char h == 0x0D && slice_index h.unread.text 1 == 0x0A)
    refl
