-- Between quotes, what is neither a quote nor a backslash folds as the lines of any scalar do.
use Rattle.std.proofs.Common.{◌≡◌, ℕ, suc, ◌+◌, ◌==◌, Bool, true, false, not, ◌&&◌, List, [], ◌∷◌, ◌++◌, refl, sym, ap}
use Rattle.std.proofs.Common.{ap₂, ◌∙◌, subst, arith, append_assoc, append-nil}
use Rattle.std.proofs.lemmas.Bool.Decides.{nat_tests}
use Rattle.granit_base.specs.Classes.{is_blank, is_break, is_gap, is_printable}
use Rattle.granit_base.specs.Place.{first}
use Rattle.granit_lexemes.proofs.CharTests.{blank_apart_from_break}
use Rattle.granit_lexemes.specs.Decoding.{Escape, letter, number, halves}
use Rattle.granit_lexemes.specs.Folding.{before_lines, lines_of, break_text, fold, trim_lines, folded}
use Rattle.granit_lexemes.specs.Gap.{Each}
use Rattle.granit_lexemes.specs.Here.{Here}
use Rattle.granit_lexemes.specs.LayoutData.{LayoutData}
use Rattle.granit_lexemes.specs.QuotedExtent.{OneBreak, line_feed, pair, carriage_return, NewLine, no_more, blank}
use Rattle.granit_lexemes.specs.QuotedExtent.{break, Between, Blanks, Lines, Separates, on_line, folded as folded_gap}
use Rattle.granit_lexemes.specs.QuotedExtent.{between_text, Piece, itself, doubled, escape}
use Rattle.granit_lexemes.specs.QuotedScalar.{is_literal, is_simple}
use Rattle.granit_lexemes.specs.QuotedExtent.{before_break, Inside, nothing, content, QuotedStands, quoted_value}
use Rattle.granit_scalars.proofs.Folding.{folded_behind, IsBreak, in_first_line, folds_blanks}
use Rattle.granit_scalars.proofs.Folding.{folds_break, folds_behind_blank, folds_behind_break, folds_behind_content}
use Rattle.granit_scalars.proofs.PlainReads.{neither_gap}

-- ---- blanks and breaks

one_is_break : {brk behind : List ℕ} → OneBreak brk behind → IsBreak brk behind
unfolding is_break
one_is_break line_feed = refl
one_is_break pair = refl
one_is_break {behind = behind} (carriage_return n) = ap (λ b. before_lines (not b) true 0x0D (lines_of behind)) n

newline_folds : {at : LayoutData} {column empty last : ℕ} {text behind : List ℕ}
    → NewLine at column text behind empty last → (k : ℕ)
    → folded_behind k (text ++ behind) ≡ folded_behind (k + empty) behind
newline_folds {behind = behind} no_more k = let e : k ≡ k + 0 = omega arith in ap (λ n. folded_behind n behind) e
newline_folds {behind = behind} (blank {text = text} b y z more) k = folds_behind_blank k b (text ++ behind) y
    (blank_apart_from_break b y) ∙ newline_folds more k
newline_folds {behind = behind} (break {text = text} {empty = empty} brk one more) k =
    let e : suc k + empty ≡ k + suc empty = omega arith in
    ap (folded_behind k) (append_assoc brk text behind) ∙ folds_behind_break k brk (text ++ behind) (one_is_break one)
    ∙ newline_folds more (suc k) ∙ ap (λ n. folded_behind n behind) e

folded_gap_folds : {at : LayoutData} {gap behind : List ℕ} {empty column : ℕ}
    → Separates at gap behind (Lines empty column) → folded (gap ++ behind) ≡ folded_behind empty behind
folded_gap_folds {behind = behind} {empty = empty} (folded_gap {text = text} blanks brk each one more) =
    let e : 0 + empty ≡ empty = omega arith in
    ap folded (append_assoc blanks (brk ++ text) behind
    ∙ ap (λ (t : List ℕ). blanks ++ t) (append_assoc brk text behind))
    ∙ folds_break blanks brk (text ++ behind) each (one_is_break one) ∙ newline_folds more 0
    ∙ ap (λ n. folded_behind n behind) e

pub blanks_are : {at : LayoutData} {gap behind blanks : List ℕ} → Separates at gap behind (Blanks blanks)
    → (gap ≡ blanks) × Each is_blank blanks
blanks_are (on_line each) = (refl, each)

-- blanks and breaks before content
gap_folds : {at : LayoutData} {gap cs behind : List ℕ} {x : Between} (c : ℕ) → Separates at gap behind x
    → behind ≡ c ∷ cs → is_gap c ≡ false → folded (gap ++ c ∷ cs) ≡ between_text false x ++ (c ∷ folded cs)
gap_folds {cs = cs} {x = Blanks blanks} c p e n =
    let b = blanks_are p in
    let k = neither_gap c n in
    ap (λ (t : List ℕ). folded (t ++ c ∷ cs)) b.0 ∙ folds_blanks blanks c cs b.1 k.0 k.1
gap_folds {gap = gap} {cs = cs} {x = Lines empty column} c p e n =
    let k = neither_gap c n in
    ap (λ (t : List ℕ). folded (gap ++ t)) (sym e) ∙ folded_gap_folds p ∙ ap (folded_behind empty) e
    ∙ folds_behind_content empty c cs k.0 k.1

-- ---- what stands behind matters by its first character alone

swap_first : (text a b : List ℕ) → (first (text ++ a) == 0x0A) ≡ false → (first b == 0x0A) ≡ false
    → (first (text ++ b) == 0x0A) ≡ false
swap_first [] a b n m = m
swap_first (c ∷ text) a b n m = n

swap_one : (text a b : List ℕ) {brk : List ℕ} → OneBreak brk (text ++ a) → (first b == 0x0A) ≡ false
    → OneBreak brk (text ++ b)
swap_one text a b line_feed m = line_feed
swap_one text a b pair m = pair
swap_one text a b (carriage_return n) m = carriage_return (swap_first text a b n m)

swap_line : {at : LayoutData} {column empty last : ℕ} {text a : List ℕ} → NewLine at column text a empty last
    → (b : List ℕ) → (first b == 0x0A) ≡ false → NewLine at column text b empty last
swap_line no_more b m = no_more
swap_line (blank c y z more) b m = blank c y z (swap_line more b m)
swap_line {a = a} (break {text = text} brk one more) b m = break brk (swap_one text a b one m) (swap_line more b m)

pub swap : {at : LayoutData} {gap a : List ℕ} {x : Between} → Separates at gap a x → (b : List ℕ)
    → (first b == 0x0A) ≡ false → Separates at gap b x
swap (on_line each) b m = on_line each
swap {a = a} (folded_gap {text = text} blanks brk each one more) b m = folded_gap blanks brk each
    (swap_one text a b one m) (swap_line more b m)

-- ---- the last blanks and breaks

blanks_line : (blanks : List ℕ) → Each is_blank blanks → lines_of blanks ≡ blanks ∷ []
blanks_line [] y = refl
blanks_line (b ∷ blanks) y = in_first_line b blanks blanks [] (blank_apart_from_break b y.0) (blanks_line blanks y.1)

end_folds : {at : LayoutData} {gap : List ℕ} (x : Between) → Separates at gap [] x → folded gap ≡ between_text false x
end_folds (Blanks blanks) p =
    let b = blanks_are p in
    ap folded b.0 ∙ ap (λ ls. fold (trim_lines ls)) (blanks_line blanks b.1) ∙ append-nil blanks
end_folds {gap = gap} (Lines empty column) p = ap folded (sym (append-nil gap)) ∙ folded_gap_folds p
    ∙ append-nil (break_text empty)

-- ---- content

pub each_behind : (test : ℕ → Bool) (front text : List ℕ) → Each test (front ++ text) → Each test text
each_behind test [] text e = e
each_behind test (c ∷ front) text e = each_behind test front text e.1

no_backslash : {e : List ℕ} {c : ℕ} → Escape e c → (cs : List ℕ) → Each (is_simple false) (e ++ cs) → ⊥
no_backslash (letter y) cs s = let k = s.0 in cc
no_backslash (number y a v) cs s = let k = s.0 in cc
no_backslash (halves a p b q) cs s = let k = s.0 in cc

-- a piece without a quote and a backslash is one character that stands for itself
record Single (piece taken : List ℕ) (escapes : Bool) : Type 0 where
  c : ℕ
  is : piece ≡ c ∷ []
  value : taken ≡ c ∷ []
  none : escapes ≡ false
  no_gap : is_gap c ≡ false

not_first : (a b c : Bool) → ((not a && b) && c) ≡ true → a ≡ false
not_first true b c e = cc
not_first false b c e = refl

pub literal_gap : (single : Bool) (c : ℕ) → is_literal single c ≡ true → is_gap c ≡ false
unfolding is_literal
literal_gap single c y = not_first (is_gap c) (is_printable c) (is_simple single c) y

one_piece : {single : Bool} {piece behind taken : List ℕ} {escapes : Bool} → Piece single piece behind taken escapes
    → (cs : List ℕ) → Each (is_simple single) (piece ++ cs) → Single piece taken escapes
one_piece {single} (itself {c = c} y) cs s = record {
  c = c;
  is = refl;
  value = refl;
  none = refl;
  no_gap = literal_gap
      single c y;
}
one_piece doubled cs s = absurd (let k = s.0 in cc)
one_piece (escape y) cs s = absurd (no_backslash y cs s)
one_piece (before_break y) cs s = absurd (let k = s.0 in cc)

pub no_line_feed : (c : ℕ) (t : List ℕ) → is_gap c ≡ false → (first (c ∷ t) == 0x0A) ≡ false
unfolding is_gap is_blank is_break
no_line_feed c t n = grind (arith, nat_tests)

inside_folds : {single : Bool} {at : LayoutData} {escaped left : Bool} {source behind value : List ℕ}
    → Inside single at escaped source behind value left → escaped ≡ false → Each (is_simple single) source
    → (further : List ℕ) (x : Between) → Separates at further [] x
    → (folded (source ++ further) ≡ value ++ between_text false x) × (left ≡ false)
inside_folds nothing e s further x p = (end_folds x p, e)
inside_folds {single} {at} (content {behind = behind} {gap = gap} {piece = piece} {cs = cs} {taken = taken}
    {more = more} y is v q piece_is m on) e s further x p =
    let simple : Each (is_simple single) (piece ++ cs) = each_behind (is_simple single) gap (piece ++ cs)
    (subst (Each (is_simple single)) is s) in
    let one = one_piece piece_is cs simple in
    let rest = inside_folds on one.none (each_behind (is_simple single) piece cs simple) further x p in
    let c = one.c in
    let apart : Separates at gap (c ∷ (cs ++ further)) y = swap q (c ∷ (cs ++ further))
    (no_line_feed c (cs ++ further) one.no_gap) in (
      ap (λ (t : List ℕ). folded (t ++ further)) (is ∙ ap (λ (t : List ℕ). gap ++ (t ++ cs)) one.is)
          ∙ ap folded (append_assoc gap (c ∷ cs) further)
          ∙ gap_folds c apart refl one.no_gap ∙ ap (λ (t : List ℕ). between_text false y ++ (c ∷ t)) rest.0
          ∙ sym (ap (λ (t : List ℕ). t ++ between_text false x)
          (v ∙ ap₂ (λ b (t : List ℕ). between_text b y ++ (t ++ more)) e one.value)
          ∙ append_assoc (between_text false y) (c ∷ more) (between_text false x)),
      rest.1,
    )

pub each_front : (test : ℕ → Bool) (front text : List ℕ) → Each test (front ++ text) → Each test front
each_front test [] text e = tt
each_front test (c ∷ front) text e = (e.0, each_front test front text e.1)

-- so the value of such a scalar is the fold of its lines
pub simple_folds : (single : Bool) (at : LayoutData) (h : Here) (source value gap : List ℕ) (left : Bool) (x : Between)
    (rest : List ℕ) → QuotedStands single at h source value gap left x rest → Each (is_simple single) (source ++ gap)
    → quoted_value value left x ≡ folded (source ++ gap)
simple_folds single at h source value gap left x rest p s =
    let r = inside_folds p.front.inside refl (each_front (is_simple single) source gap s) gap x
    (swap p.front.separated [] refl) in
    ap (λ b. value ++ between_text b x) r.1 ∙ sym r.0
