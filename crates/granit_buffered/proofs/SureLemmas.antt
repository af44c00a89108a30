-- Characters that are taken, in front of a text.
use Rattle.std.proofs.Common.{◌≡◌, ◌<◌, ◌==◌, ℕ, zero, suc, Bool, true, false, List, [], ◌∷◌, drop, refl, ap, sym, ◌∙◌}
use Rattle.std.proofs.Common.{◌&&◌, ◌||◌, arith, subst}
use Rattle.std.proofs.lemmas.Bool.Decides.{nat_tests}
use Rattle.std.specs.List.{slice_index}
use Rattle.granit_base.specs.Classes.{is_blank, is_blank_or_breakz, is_break, is_breakz, is_flow, is_printable}
use Rattle.granit_base.specs.Classes.{is_within, is_z}
use Rattle.granit_base.specs.Place.{first}
use Rattle.granit_runs.proofs.AsciiLemmas.{plain_ascii, word_ascii}
use Rattle.granit_runs.proofs.RunLemmas.{class_nul, run_nul}
use Rattle.granit_runs.proofs.WhiteLemmas.{skipped_nul}
use Rattle.granit_runs.specs.Runs.{is_plain_ascii, is_quoted_ascii, is_quoted_char, run_test}
use Rattle.granit_runs.specs.declared.class.Run.{Run}
use Rattle.granit_runs.specs.declared.class.Run.TheVariants.{Of, Plain, Quoted, QuotedAscii}
use Rattle.granit_runs.specs.declared.class.Run.TheVariants.{PlainWords, QuotedWords}
use Rattle.granit_buffered.specs.Sure.{TellsAlone, is_common, taker_test, takes_common}
use Rattle.granit_buffered.specs.declared.sure.Taker.{Taker}
use Rattle.granit_buffered.specs.declared.sure.Taker.TheVariants.{Sure, Blanks}

nul_ends : (run : Run) (after : List ℕ) → run_test run (0 ∷ after) ≡ false
unfolding is_blank_or_breakz is_blank is_breakz is_break is_z
nul_ends (Of class) after = class_nul class
nul_ends (Plain true) after = refl
nul_ends (Plain false) after = refl
nul_ends (Quoted true) after = refl
nul_ends (Quoted false) after = refl
nul_ends (QuotedAscii true) after = refl
nul_ends (QuotedAscii false) after = refl
nul_ends (PlainWords true) after = refl
nul_ends (PlainWords false) after = refl
nul_ends (QuotedWords true) after = refl
nul_ends (QuotedWords false) after = refl

-- no run takes NUL
pub taken_some : (run : Run) (c : ℕ) (after : List ℕ) → run_test run (c ∷ after) ≡ true → 0 < c
taken_some run zero after y = absurd (let n = nul_ends run after in cc)
taken_some run (suc c) after y = omega arith

-- past the end NUL is seen
pub test_of_first : (run : Run) (text : List ℕ) → run_test run text ≡ run_test run (first text ∷ drop 1 text)
test_of_first run (c ∷ cs) = refl
test_of_first (Of class) [] = refl
test_of_first (Plain in_flow) [] = refl
test_of_first (Quoted single) [] = refl
test_of_first (QuotedAscii single) [] = refl
test_of_first (PlainWords in_flow) [] = refl
test_of_first (QuotedWords single) [] = refl

pub second_is_next : (text : List ℕ) → slice_index text 1 ≡ first (drop 1 text)
second_is_next [] = refl
second_is_next (c ∷ []) = refl
second_is_next (c ∷ d ∷ cs) = refl

-- a character that is no ` ` or `:` says by itself whether a run takes it
pub sure_of_first : (run : Run) (c : ℕ) (answer : Bool) (text : List ℕ)
    → (answer ≡ true → (after : List ℕ) → run_test run (c ∷ after) ≡ true)
    → (answer ≡ false → (c == 0x20) ≡ false → (c == 0x3A) ≡ false → (after : List ℕ)
    → run_test run (c ∷ after) ≡ false)
    → (c == 0x20) ≡ false → (c == 0x3A) ≡ false → c ≡ first text → answer ≡ run_test run text
sure_of_first run c true text takes ends blank colon is =
    sym (test_of_first run text ∙ ap (λ (x : ℕ). run_test run (x ∷ drop 1 text)) (sym is) ∙ takes refl (drop 1 text))
sure_of_first run c false text takes ends blank colon is =
    sym (test_of_first run text ∙ ap (λ (x : ℕ). run_test run (x ∷ drop 1 text)) (sym is)
    ∙ ends refl blank colon (drop 1 text))

pub by_next : (run : Run) (c next : ℕ) (answer : Bool) (text : List ℕ)
    → ((after : List ℕ) → next ≡ first after → answer ≡ run_test run (c ∷ after))
    → c ≡ first text → next ≡ slice_index text 1 → answer ≡ run_test run text
by_next run c next answer text before is behind =
    before (drop 1 text) (behind ∙ second_is_next text)
    ∙ ap (λ (x : ℕ). run_test run (x ∷ drop 1 text)) is ∙ sym (test_of_first run text)

-- at the end nothing is taken
pub taker_nul : (taker : Taker) → taker_test taker [] ≡ false
taker_nul (Sure run) = run_nul run
taker_nul (Blanks tabs) = skipped_nul tabs

-- what a character that stands in front of a text says of it
pub tells_of_text : (taker : Taker) (c : ℕ) (after text : List ℕ) → text ≡ c ∷ after
    → (TellsAlone taker c → (cs : List ℕ) → taker_test taker (c ∷ cs) ≡ false)
    → TellsAlone taker (first text) → taker_test taker text ≡ false
tells_of_text taker c after text is ends alone =
    ap (taker_test taker) is ∙ ends (subst (TellsAlone taker) (ap first is) alone) after

-- ---- common characters

common_plain : (in_flow : Bool) (c : ℕ) → is_common c ≡ true → is_plain_ascii in_flow c ≡ true
unfolding is_flow
common_plain true c y = grind (arith, nat_tests)
common_plain false c y = grind (arith, nat_tests)

common_quoted : (single : Bool) (c : ℕ) → is_common c ≡ true → is_quoted_ascii single c ≡ true
common_quoted true c y = grind (arith, nat_tests)
common_quoted false c y = grind (arith, nat_tests)

common_past : (single : Bool) (c : ℕ) → is_common c ≡ true → is_quoted_char single c ≡ true
common_past single c y =
    ap (λ (b : Bool). b || (is_within 0x80 0x10FFFF c && is_printable c)) (common_quoted single c y)

pub common_taken : (run : Run) (c : ℕ) (after : List ℕ) → takes_common run ≡ true → is_common c ≡ true
    → run_test run (c ∷ after) ≡ true
common_taken (Of class) c after all low = absurd cc
common_taken (Plain in_flow) c after all low = plain_ascii in_flow c after (common_plain in_flow c low)
common_taken (PlainWords in_flow) c after all low = word_ascii in_flow c after (common_plain in_flow c low)
common_taken (Quoted single) c after all low = common_past single c low
common_taken (QuotedAscii single) c after all low = common_quoted single c low
common_taken (QuotedWords single) c after all low =
    ap (λ (b : Bool). b || (c == 0x20 && is_quoted_char single (first after))) (common_past single c low)
