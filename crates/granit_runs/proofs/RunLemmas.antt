-- Runs, one character at a time.
use Rattle.std.proofs.Common.{◌≡◌, ℕ, zero, suc, ◌+◌, ◌<◌, ◌≤◌, Bool, true, false, List, [], ◌∷◌, length, take, drop}
use Rattle.std.proofs.Common.{refl, ap, ◌∙◌, inl, inr, zero-add, arith}
use Rattle.std.proofs.lemmas.List.{drop-drop}
use Rattle.std.proofs.lemmas.Bool.{cases_Bool}
use Rattle.granit_base.specs.Classes.{is_alpha, is_word_char, is_digit, is_blank, is_blank_or_breakz, is_break}
use Rattle.granit_base.specs.Classes.{is_breakz, is_z, is_flow, is_printable, is_yaml_non_space, is_yaml_non_break}
use Rattle.granit_base.specs.Classes.{is_bom}
use Rattle.granit_runs.specs.Runs.{run_length, run_test, class_test, is_quoted_ascii, is_quoted_char}
use Rattle.granit_runs.specs.Chunks.{FrontOf, TakesFront}
use Rattle.granit_runs.specs.declared.class.Class.{Class}
use Rattle.granit_runs.specs.declared.class.Class.TheVariants.{Alpha, NonSpace, Blank, Printable, NonBreakz}
use Rattle.granit_runs.specs.declared.class.Run.{Run}
use Rattle.granit_runs.specs.declared.class.Run.TheVariants.{Of, Plain, Quoted, QuotedAscii}
use Rattle.granit_runs.specs.declared.class.Run.TheVariants.{PlainWords, QuotedWords}

pub none_taken : (xs : List ℕ) → take 0 xs ≡ []
none_taken [] = refl
none_taken (x ∷ xs) = refl

-- no run takes NUL
pub class_nul : (k : Class) → class_test k 0 ≡ false
unfolding is_alpha is_word_char is_digit is_yaml_non_space is_yaml_non_break is_printable is_blank is_break is_breakz
    is_z is_bom
class_nul Alpha = refl
class_nul NonSpace = refl
class_nul Blank = refl
class_nul Printable = refl
class_nul NonBreakz = refl

pub class_some : (k : Class) (c : ℕ) → class_test k c ≡ true → 0 < c
class_some k zero e = absurd (let f = class_nul k in cc)
class_some k (suc c) e = omega arith

pub blank_or_breakz_some : (c : ℕ) → is_blank_or_breakz c ≡ false → 0 < c
unfolding is_blank_or_breakz is_blank is_breakz is_break is_z
blank_or_breakz_some zero e = absurd cc
blank_or_breakz_some (suc c) e = omega arith

-- a character of these classes isn't NUL
pub alpha_some : (c : ℕ) → is_alpha c ≡ true → 0 < c
alpha_some = class_some Alpha

pub blank_some : (c : ℕ) → is_blank c ≡ true → 0 < c
blank_some = class_some Blank

pub break_some : (c : ℕ) → is_break c ≡ true → 0 < c
unfolding is_break
break_some zero e = absurd cc
break_some (suc c) e = omega arith

pub breakz_some : (c : ℕ) → is_breakz c ≡ false → 0 < c
unfolding is_breakz is_break is_z
breakz_some zero e = absurd cc
breakz_some (suc c) e = omega arith

pub quoted_some : (single : Bool) (c : ℕ) → is_quoted_char single c ≡ true → 0 < c
quoted_some true zero e = absurd cc
quoted_some false zero e = absurd cc
quoted_some single (suc c) e = omega arith

pub quoted_ascii_some : (single : Bool) (c : ℕ) → is_quoted_ascii single c ≡ true → 0 < c
quoted_ascii_some true zero e = absurd cc
quoted_ascii_some false zero e = absurd cc
quoted_ascii_some single (suc c) e = omega arith

pub flow_some : (c : ℕ) → is_flow c ≡ true → 0 < c
unfolding is_flow
flow_some zero e = absurd cc
flow_some (suc c) e = omega arith

pub digit_some : (c : ℕ) → is_digit c ≡ true → 0 < c
unfolding is_digit
digit_some zero e = absurd cc
digit_some (suc c) e = omega arith

pub run_nul : (r : Run) → run_test r [] ≡ false
unfolding is_blank_or_breakz is_blank is_breakz is_break is_z
run_nul (Of k) = class_nul k
run_nul (Plain true) = refl
run_nul (Plain false) = refl
run_nul (Quoted true) = refl
run_nul (Quoted false) = refl
run_nul (QuotedAscii true) = refl
run_nul (QuotedAscii false) = refl
run_nul (PlainWords true) = refl
run_nul (PlainWords false) = refl
run_nul (QuotedWords true) = refl
run_nul (QuotedWords false) = refl

-- ---- the length of a run

run_stops : (test : List ℕ → Bool) (text : List ℕ) → test text ≡ false → run_length test text ≡ 0
unfolding run_length
run_stops test [] e = refl
run_stops test (c ∷ cs) e = rw e refl

run_goes : (test : List ℕ → Bool) (text : List ℕ) → test [] ≡ false → test text ≡ true
    → run_length test text ≡ suc (run_length test (drop 1 text))
unfolding run_length
run_goes test [] nul e = absurd cc
run_goes test (c ∷ cs) nul e = rw e refl

pub run_within : (test : List ℕ → Bool) (text : List ℕ) → run_length test text ≤ length text
unfolding run_length
run_within test [] = omega arith
run_within test (c ∷ cs) =
    elim (cases_Bool (test (c ∷ cs))) [
      | inl held ↦ rw held (omega (arith, run_within test cs))
      | inr failed ↦ rw failed (omega arith)
    ]

-- so many characters of the run are behind
pub record IsFront (test : List ℕ → Bool) (text : List ℕ) (count : ℕ) : Type 0 where
  pub rest : count + run_length test (drop count text) ≡ run_length test text

pub front_none : (test : List ℕ → Bool) (text : List ℕ) → IsFront test text 0
front_none test text = record { rest = zero-add _ }

pub front_more : (test : List ℕ → Bool) (text : List ℕ) (count : ℕ) → test [] ≡ false → IsFront test text count
    → test (drop count text) ≡ true → IsFront test text (count + 1)
front_more test text count nul front go =
    let goes = run_goes test (drop count text) nul go in
    let next : drop 1 (drop count text) ≡ drop (count + 1) text = drop-drop 1 count text in
    let more : run_length test (drop count text) ≡ suc (run_length test (drop (count + 1) text)) = goes
    ∙ ap (λ (t : List ℕ). suc (run_length test t)) next in
    record { rest = omega (arith, front.rest, more) }

-- so many more
pub front_on : (test : List ℕ → Bool) (text : List ℕ) (m n : ℕ) → IsFront test text m → FrontOf test (drop m text) n
    → IsFront test text (m + n)
front_on test text m n front more =
    let next : run_length test (drop n (drop m text)) ≡ run_length test (drop (m + n) text) = ap (run_length test)
    (drop-drop n m text) in
    record { rest = omega (arith, front.rest, more, next) }

pub front_whole : (test : List ℕ → Bool) (text : List ℕ) (count : ℕ) → IsFront test text count
    → test (drop count text) ≡ false → count ≡ run_length test text
front_whole test text count front stop = omega (arith, front.rest, run_stops test (drop count text) stop)

pub front_fits : (test : List ℕ → Bool) (text : List ℕ) (count : ℕ) → IsFront test text count
    → count ≤ run_length test text
front_fits test text count front = omega (arith, front.rest)

pub front_ended : (test : List ℕ → Bool) (text : List ℕ) (asked count : ℕ) → IsFront test text count
    → test (drop count text) ≡ false → TakesFront test text asked true count
front_ended test text asked count front stop =
    let whole = front_whole test text count front stop in
    record { fits = omega arith; whole = λ _. whole; enough = λ e. absurd cc }

-- no fewer characters than were asked for, whether or not the run ends there
pub front_cut : (test : List ℕ → Bool) (text : List ℕ) (asked count : ℕ) → IsFront test text count → asked ≤ count
    → TakesFront test text asked false count
front_cut test text asked count front enough =
    record { fits = front_fits test text count front; whole = λ e. absurd cc; enough = λ _. enough }

-- a front that is shorter than what was asked for is the whole run
pub front_all : (test : List ℕ → Bool) (text : List ℕ) (asked : ℕ) (ended : Bool) (count : ℕ)
    → TakesFront test text asked ended count → count < asked → count ≡ run_length test text
front_all test text asked true count front short = front.whole refl
front_all test text asked false count front short = absurd (omega (arith, front.enough refl))

pub ruleset not_nul = (
  class_some,
  alpha_some,
  blank_some,
  break_some,
  breakz_some,
  blank_or_breakz_some,
  flow_some,
  quoted_some,
  quoted_ascii_some,
  digit_some,
)
