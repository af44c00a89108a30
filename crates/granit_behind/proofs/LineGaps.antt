-- What stands before a break on its line is of no matter to the gap that begins with the break.
use Rattle.std.proofs.Common.{◌≡◌, ℕ, ◌+◌, ◌==◌, ◌&&◌, ◌||◌, not, Bool, true, false, List, [], ◌∷◌, length, Option}
use Rattle.std.proofs.Common.{None, refl, sym, ap, ◌∙◌, arith}
use Rattle.std.specs.Option.{option_map}
use Rattle.std.specs.Char.{encode_utf8}
use Rattle.std.specs.Prelude.{if◌then◌else◌}
use Rattle.std.proofs.lemmas.Bool.Decides.{nat_tests}
use Rattle.granit_base.specs.Classes.{is_break, is_bom}
use Rattle.granit_base.specs.Place.{Mark, first, ends_line}
use Rattle.granit_error.specs.OptionsData.{OptionsData}
use Rattle.granit_lexemes.proofs.CharTests.{break_gap}
use Rattle.granit_lexemes.proofs.HereLemmas.{not_empty}
use Rattle.granit_lexemes.specs.Here.{Here, begins_behind, tab_behind, step, first_tab, is_quiet}
use Rattle.granit_machine.specs.Gaps.{GapRead, begins_gap, skip_gap, past_gap, gap_ends, gap}
use Rattle.granit_machine.specs.Laid.{Laid, laid_start}
use Rattle.granit_machine.specs.Reader.{read, read_behind, read_whole}
use Rattle.granit_lexemes.specs.Outcome.{◌>>=◌}

-- what is known of a line up to a place
pub record Seen : Type 0 where
  pub column : ℕ
  pub begins_line : Bool
  pub tab : Option Mark

abbrev pub here_at : List ℕ → Option ℕ → Bool → (index line : ℕ) → Seen → Here
here_at text offset lends index line s = record {
  unread = record { text = text; offset = offset; lends = lends };
  place = record { index = index; line = line; column = s.column };
  begins_line = s.begins_line;
  tab = s.tab;
}

abbrev pub more : ℕ → Option ℕ → Option ℕ
more d offset = option_map (λ n. n + length (encode_utf8 d)) offset

-- behind a character that ends a line nothing is known of it
pub step_line : (d : ℕ) (ds : List ℕ) (offset : Option ℕ) (lends : Bool) (i n : ℕ) (s : Seen)
    → ends_line (d ∷ ds) ≡ true → step (here_at (d ∷ ds) offset lends i n s)
    ≡ here_at ds (more d offset) lends (i + 1) (n + 1) (record { column = 0; begins_line = true; tab = None })
unfolding step begins_behind tab_behind
step_line d ds offset lends i n s e = rw (not_empty d ds, e) refl

abbrev pub seen_behind : ℕ → List ℕ → Option ℕ → (i n : ℕ) → Seen → Seen
seen_behind d ds offset i n s = record {
  column = s.column + 1;
  begins_line = is_quiet d && s.begins_line;
  tab = if not (is_quiet d) then None else if d == 0x09 then first_tab s.tab (record {
    place = record { index = i; line = n; column = s.column };
    byte_offset = offset;
  }) else s.tab;
}

pub step_on : (d : ℕ) (ds : List ℕ) (offset : Option ℕ) (lends : Bool) (i n : ℕ) (s : Seen) → ends_line (d ∷ ds) ≡ false
    → step (here_at (d ∷ ds) offset lends i n s)
    ≡ here_at ds (more d offset) lends (i + 1) n (seen_behind d ds offset i n s)
unfolding step begins_behind tab_behind
step_on d ds offset lends i n s e = rw (not_empty d ds, e) refl

no_bom : (d : ℕ) → is_break d ≡ true → is_bom d ≡ false
unfolding is_break is_bom
no_bom d e = grind (arith, nat_tests, e)

-- a break is skipped
pub skip_over : (d : ℕ) (ds : List ℕ) (h : Here) → h.unread.text ≡ d ∷ ds → is_break d ≡ true
    → skip_gap true (d ∷ ds) h ≡ skip_gap true ds (step h)
skip_over d ds h t e =
    let f : first h.unread.text ≡ d = ap first t in
    rw (f, break_gap d e, no_bom d e) refl

-- CR before LF, where a break doesn't end its line
lf_follows : (d : ℕ) (ds : List ℕ) → is_break d ≡ true → ends_line (d ∷ ds) ≡ false → is_break (first ds) ≡ true
unfolding is_break
lf_follows d ds e n = on (d == 0x0A) (d == 0x0D) (first ds == 0x0A) (first ds == 0x0D) e n
  where
    on : (a b c k : Bool) → (a || b) ≡ true → (a || (b && not c)) ≡ false → (c || k) ≡ true
    on true b c k e n = absurd (cc)
    on false true true k e n = refl
    on false true false k e n = absurd (cc)
    on false false c k e n = absurd (cc)

no_break : is_break 0 ≡ false
unfolding is_break
no_break = refl

skip_alike : (text : List ℕ) (offset : Option ℕ) (lends : Bool) (i n : ℕ) (s t : Seen) → is_break (first text) ≡ true
    → skip_gap true text (here_at text offset lends i n s) ≡ skip_gap true text (here_at text offset lends i n t)
skip_alike [] offset lends i n s t e = absurd (let no = no_break in cc)
skip_alike (d ∷ ds) offset lends i n s t e =
    on (ends_line (d ∷ ds)) refl (λ f. skip_alike ds (more d offset) lends (i + 1) n (seen_behind d ds offset i n s)
    (seen_behind d ds offset i n t) f)
  where
    on : (b : Bool) → ends_line (d ∷ ds) ≡ b
        → (is_break (first ds) ≡ true
        → skip_gap true ds (here_at ds (more d offset) lends (i + 1) n (seen_behind d ds offset i n s))
        ≡ skip_gap true ds (here_at ds (more d offset) lends (i + 1) n (seen_behind d ds offset i n t)))
        → skip_gap true (d ∷ ds) (here_at (d ∷ ds) offset lends i n s)
        ≡ skip_gap true (d ∷ ds) (here_at (d ∷ ds) offset lends i n t)
    on true z rest =
        skip_over d ds (here_at (d ∷ ds) offset lends i n s) refl e
        ∙ ap (skip_gap true ds) (step_line d ds offset lends i n s z ∙ sym (step_line d ds offset lends i n t z))
        ∙ sym (skip_over d ds (here_at (d ∷ ds) offset lends i n t) refl e)
    on false z rest =
        skip_over d ds (here_at (d ∷ ds) offset lends i n s) refl e
        ∙ ap (skip_gap true ds) (step_on d ds offset lends i n s z)
        ∙ rest (lf_follows d ds e z)
        ∙ sym (ap (skip_gap true ds) (step_on d ds offset lends i n t z))
        ∙ sym (skip_over d ds (here_at (d ∷ ds) offset lends i n t) refl e)

-- where no bracket is open and a byte-order mark may stand
abbrev pub laid_at : ℕ → Bool → Laid
laid_at number may_prefix = record laid_start { number = number; may_prefix = may_prefix }

gap_alike : (o : OptionsData) (number : ℕ) (text : List ℕ) (offset : Option ℕ) (lends : Bool) (i n : ℕ) (s t : Seen)
    → is_break (first text) ≡ true
    → gap o (here_at text offset lends i n s) (laid_at number true) ≡ gap o (here_at text offset lends i n t)
    (laid_at number true)
unfolding past_gap
gap_alike o number text offset lends i n s t e =
    let l = laid_at number true in
    let g = here_at text offset lends i n s in
    let h = here_at text offset lends i n t in
    let at : (h : Here) → h.unread.text ≡ text → begins_gap true h ≡ true =
    λ h f. rw (f, break_gap (first text) e) refl in
    ap (λ (b : Bool). gap_ends o b (skip_gap true text g) l) (at g refl)
    ∙ ap (λ (k : Here). gap_ends o true k l) (skip_alike text offset lends i n s t e)
    ∙ sym (ap (λ (b : Bool). gap_ends o b (skip_gap true text h) l) (at h refl))

pub read_alike : (o : OptionsData) (number : ℕ) (text : List ℕ) (offset : Option ℕ) (lends : Bool) (i n : ℕ)
    (s t : Seen) → is_break (first text) ≡ true
    → read o (record { here = here_at text offset lends i n s; laid = laid_at number true })
    ≡ read o (record { here = here_at text offset lends i n t; laid = laid_at number true })
unfolding read
read_alike o number text offset lends i n s t e =
    ap (λ (r : GapRead). r >>= λ x. read_behind o x.0 x.1 >>= λ y. read_whole o y.0 y.1)
    (gap_alike o number text offset lends i n s t e)
