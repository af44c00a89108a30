-- Words in front of a quoted scalar, with its end or before what follows.
use Rattle.std.proofs.Common.{◌≡◌, ℕ, ◌≤◌, Bool, true, false, List, [], ◌∷◌, ◌++◌, length, take, drop, slice_index}
use Rattle.std.proofs.Common.{refl, sym, ap, ◌∙◌, arith}
use Rattle.std.proofs.lemmas.List.{length-take-le, take-append-drop}
use Rattle.granit_base.specs.Place.{Mark, first}
use Rattle.granit_runs.specs.Quotes.{IsQuoted, ends_after_quote, quote_of}
use Rattle.granit_runs.specs.Runs.{run_length, is_quoted_word}
use Rattle.granit_runs.proofs.RunLemmas.{run_within}
use Rattle.granit_lexemes.specs.Here.{Here, next_char, step}
use Rattle.granit_lexemes.specs.LayoutData.{LayoutData}
use Rattle.granit_lexemes.specs.Moves.{steps}
use Rattle.granit_lexemes.proofs.HereLemmas.{step_text}
use Rattle.granit_scalars.proofs.Comments.{steps_text}
use Rattle.granit_quoted.specs.QuotedCode.{copied_scalar, nothing_quoted, taken_scalar, words_alone}
use Rattle.granit_quoted.proofs.KeptLemmas.{taken_same, words_taken}

begins_with : (text : List ℕ) (single : Bool) → first text ≡ quote_of single → text ≡ quote_of single ∷ drop 1 text
begins_with [] true is = absurd cc
begins_with [] false is = absurd cc
begins_with (c ∷ cs) single is = ap (λ (d : ℕ). d ∷ cs) is

second_of : (text : List ℕ) → slice_index text 1 ≡ first (drop 1 text)
second_of [] = refl
second_of (c ∷ []) = refl
second_of (c ∷ d ∷ cs) = refl

-- the words and the closing quote
pub closed_by : (single in_flow : Bool) (h : Here) (n : ℕ) (words : List ℕ) → next_char h ≡ quote_of single
    → n ≡ run_length (is_quoted_word single) (step h).unread.text → words ≡ take n (step h).unread.text
    → next_char (steps n (step h)) ≡ quote_of single
    → ends_after_quote in_flow (slice_index (steps n (step h)).unread.text 1) ≡ true
    → IsQuoted single in_flow h.unread.text words × (length words ≡ n)
closed_by single in_flow h n words opens whole are closes ends =
    let inner = (step h).unread.text in
    let fits : n ≤ length inner = omega (arith, whole, run_within (is_quoted_word single) inner) in
    let count : length words ≡ n = ap length are ∙ length-take-le n inner fits in
    let rest = steps_text n (step h) in
    let behind = drop 1 (drop n inner) in
    let closing : drop n inner ≡ quote_of single ∷ behind =
    begins_with (drop n inner) single (ap first (sym rest) ∙ closes) in
    let all : inner ≡ words ++ quote_of single ∷ behind = sym (take-append-drop n inner)
    ∙ ap (λ (t : List ℕ). t ++ drop n inner) (sym are) ∙ ap (λ (t : List ℕ). words ++ t) closing in (
      record {
        behind = behind;
        is = begins_with h.unread.text single opens
            ∙ ap (λ (t : List ℕ). quote_of single ∷ t) (sym (step_text h) ∙ all);
        words = omega (arith, count, whole, ap (run_length (is_quoted_word single)) (step_text h));
        ends = ap (ends_after_quote in_flow) (sym (second_of (drop n inner))
            ∙ ap (λ (t : List ℕ). slice_index t 1) (sym rest)) ∙ ends;
      },
      count,
    )

-- the words, and what follows them
pub open_by : (single : Bool) (at : LayoutData) (start : Mark) (h : Here) (n : ℕ) (words : List ℕ)
    → n ≡ run_length (is_quoted_word single) h.unread.text → words ≡ take n h.unread.text
    → taken_scalar single at start (words_alone words) (steps n h) ≡ copied_scalar single at start [] h
open_by single at start h n words whole are =
    taken_same single at start (words_alone words) nothing_quoted (steps n h) h
    (words_taken single at start (words_alone words) nothing_quoted n h refl refl refl whole are refl refl refl)
