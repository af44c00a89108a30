-- Line feeds and the spaces behind each, as a gap.
use Rattle.std.proofs.Common.{◌≡◌, ℕ, Bool, true, false, sym, ◌∙◌, refl, arith}
use Rattle.std.proofs.lemmas.Bool.Decides.{nat_tests}
use Rattle.granit_base.specs.Classes.{is_blank, is_break, is_bom, is_gap}
use Rattle.granit_runs.specs.Lines.{is_line_gap, is_visible}
use Rattle.granit_lexemes.specs.Here.{Here, next_char, past}
use Rattle.granit_machine.specs.Gaps.{begins_gap, past_gap}
use Rattle.granit_content.proofs.GapLemmas.{gap_behind, gap_stops}

line_gap : (c : ℕ) → is_line_gap c ≡ true → is_gap c ≡ true
unfolding is_gap is_blank is_break
line_gap c held = grind (arith, nat_tests, held)

line_unmarked : (c : ℕ) → is_line_gap c ≡ true → is_bom c ≡ false
unfolding is_bom
line_unmarked c held = grind (arith, nat_tests, held)

visible_none : (c : ℕ) → is_visible c ≡ true → is_gap c ≡ false
unfolding is_gap is_blank is_break
visible_none c seen = grind (arith, nat_tests, seen)

visible_unmarked : (c : ℕ) → is_visible c ≡ true → is_bom c ≡ false
unfolding is_bom
visible_unmarked c seen = grind (arith, nat_tests, seen)

-- where a visible character stands, no gap begins
pub visible_clear : (may : Bool) (h : Here) → is_visible (next_char h) ≡ true → begins_gap may h ≡ false
visible_clear true h seen = rw (visible_none (next_char h) seen, visible_unmarked (next_char h) seen) refl
visible_clear false h seen = rw (visible_none (next_char h) seen) refl

-- a gap of line feeds and spaces alone, up to a visible character
pub gap_of_lines : (may : Bool) (h : Here) → is_visible (next_char (past is_line_gap h)) ≡ true
    → past is_line_gap h ≡ past_gap may h
gap_of_lines may h seen =
    sym (gap_stops may (past is_line_gap h) (visible_clear may (past is_line_gap h) seen))
    ∙ gap_behind is_line_gap (λ c held. (line_gap c held, line_unmarked c held)) may h
