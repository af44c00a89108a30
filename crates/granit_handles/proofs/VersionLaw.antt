-- `%YAML` and its two numbers: what is read is there, and what is there is read.
use Rattle.std.proofs.Common.{◌≡◌, ℕ, ◌==◌, Bool, true, false, List, [], ◌∷◌, ◌++◌, length, Result, Ok, refl, sym}
use Rattle.std.proofs.Common.{ap, ap₂, ◌∙◌, subst, arith}
use Rattle.std.specs.Prelude.{if◌then◌else◌, nat_lt}
use Rattle.std.proofs.lemmas.Bool.{cond-true, cond-false}
use Rattle.std.proofs.lemmas.Bool.Decides.{nat_tests}
use Rattle.granit_base.specs.Classes.{is_blank, is_digit}
use Rattle.granit_base.specs.Place.{Mark, first}
use Rattle.granit_error.specs.FaultKind.{FaultKind, MissingYamlVersion, MissingYamlVersionSeparator, YamlVersionTooLong}
use Rattle.granit_lexemes.specs.Here.{Here, next_char, step, past}
use Rattle.granit_lexemes.specs.Outcome.{Fault, ◌>>=◌}
use Rattle.granit_lexemes.specs.PlainExtent.{over}
use Rattle.granit_lexemes.specs.Basics.{fails_at}
use Rattle.granit_lexemes.proofs.HereLemmas.{not_empty, stepped_text}
use Rattle.granit_names.proofs.Runs.{over_text}
use Rattle.granit_names.proofs.Kept.{seen, over-append}
use Rattle.granit_lexemes.specs.Directive.{digits_value, number_up_to, version_number, minor_number, version_directive}
use Rattle.granit_lexemes.specs.Lexeme.{DirectiveKind, Version}
use Rattle.granit_lexemes.specs.DirectiveExtent.{All, NumberStands, VersionStands, WrongNumber, missing, too_long}
use Rattle.granit_lexemes.specs.DirectiveExtent.{WrongVersion, first_wrong, no_point, second_wrong}
use Rattle.granit_names.proofs.Runs.{run_of, past_run}
pub use Rattle.granit_names.proofs.Runs.{count_over, text_over}
pub use Rattle.granit_names.proofs.TagLaw.{some_is}

no_digit_nul : is_digit 0 ≡ false
unfolding is_digit
no_digit_nul = refl

pub no_blank_nul : is_blank 0 ≡ false
unfolding is_blank
no_blank_nul = refl

-- all characters of a class in front of a reader
pub all_over : (test : ℕ → Bool) → test 0 ≡ false → (h : Here)
    → (run : List ℕ) × All test h.unread.text run (over run h).unread.text × (past test h ≡ over run h)
all_over test nul h =
    let r = run_of test nul h.unread.text in
    let t = over_text r.front r.rest h r.whole in (
      r.front,
      record {
        whole = r.whole ∙ ap (λ (l : List ℕ). r.front ++ l) (sym t);
        each = r.each;
        all = ap
            (λ (l : List ℕ). test (first l)) t ∙ r.all;
      },
      past_run test nul r.front r.rest h r.whole r.each r.all,
    )

pub all_past : (test : ℕ → Bool) → test 0 ≡ false → (h : Here) (run rest : List ℕ) → All test h.unread.text run rest
    → past test h ≡ over run h
all_past test nul h run rest a = past_run test nul run rest h a.whole a.each a.all

-- ---- a number

-- what the function gives for the digits that begin a text
abbrev pub given_number : Mark → List ℕ → Here → Result (ℕ × Here) Fault
given_number start digits g =
    if length digits == 0 then fails_at MissingYamlVersion start
    else if nat_lt 9 (length digits) then fails_at YamlVersionTooLong start
    else Ok (digits_value 0 digits, over digits g)

pub number_run : (start : Mark) (g : Here) (digits rest : List ℕ) → All is_digit g.unread.text digits rest
    → version_number start g ≡ given_number start digits g
unfolding version_number
number_run start g digits rest a =
    ap (number_up_to start g) (all_past is_digit no_digit_nul g digits rest a)
    ∙ ap₂ (λ k (l : List ℕ). if k == 0 then fails_at MissingYamlVersion start else if nat_lt 9 k then fails_at
    YamlVersionTooLong start else Ok (digits_value 0 l, over digits g))
    (count_over digits rest g a.whole) (text_over digits rest g a.whole)

data NumberRead (start : Mark) (g : Here) : Result (ℕ × Here) Fault → Type 0 where
  read : (digits : List ℕ) (n : ℕ) → NumberStands g.unread.text digits (over digits g).unread.text n
      → NumberRead start g (Ok (n, over digits g))
  wrong : {kind : FaultKind} → WrongNumber g.unread.text kind → NumberRead start g (fails_at kind start)

number_if : (start : Mark) (g : Here) (digits : List ℕ) → All is_digit g.unread.text digits (over digits g).unread.text
    → (v w : Bool) → (length digits == 0) ≡ v → nat_lt 9 (length digits) ≡ w
    → NumberRead start g (if v then fails_at MissingYamlVersion start else if w then fails_at YamlVersionTooLong start
    else Ok (digits_value 0 digits, over digits g))
number_if start g [] a true w p q = wrong (missing a.all)
number_if start g (d ∷ digits) a true w p q = absurd (let n = not_empty d digits in cc)
number_if start g digits a false true p q = wrong (too_long a (grind (arith, nat_tests)))
number_if start g [] a false false p q = absurd cc
number_if start g (d ∷ digits) a false false p q = read (d ∷ digits) (digits_value 0 (d ∷ digits))
    (record { is = a; some = λ z. cc; few = grind (arith, nat_tests); value = refl })

number : (start : Mark) (g : Here) → NumberRead start g (version_number start g)
number start g =
    let r = all_over is_digit no_digit_nul g in
    subst (NumberRead start g) (sym (number_run start g r.0 (over r.0 g).unread.text r.1))
    (number_if start g r.0 r.1 (length r.0 == 0) (nat_lt 9 (length r.0)) refl refl)

pub number_is : (start : Mark) (g : Here) (digits rest : List ℕ) (n : ℕ) → NumberStands g.unread.text digits rest n
    → version_number start g ≡ Ok (n, over digits g)
number_is start g digits rest n s =
    let few = s.few in
    number_run start g digits rest s.is
    ∙ cond-false (length digits == 0) _ _ (some_is digits s.some)
    ∙ cond-false (nat_lt 9 (length digits)) _ _ (grind (arith, nat_tests))
    ∙ ap (λ m. Ok (m, over digits g)) (sym s.value)

-- ---- two numbers

pub data VersionRead (start : Mark) (g : Here) : Result (DirectiveKind × Here) Fault → Type 0 where
  read_version : {kind : DirectiveKind} {after : Here} (source : List ℕ) (major minor : ℕ)
      → VersionStands g.unread.text source major minor → kind ≡ Version major minor → after ≡ over source g
      → VersionRead start g (Ok (kind, after))
  wrong_version : {kind : FaultKind} → WrongVersion g.unread.text kind → VersionRead start g (fails_at kind start)

module _ (start : Mark) (g : Here) (blanks : List ℕ)
    (a : All is_blank g.unread.text blanks (over blanks g).unread.text) where
  abbrev behind : Here
  behind = over blanks g

  module _ (digits : List ℕ) (major : ℕ) (s : NumberStands behind.unread.text digits (over digits behind).unread.text
      major) where
    abbrev point : Here
    point = over digits behind

    second : (dot : point.unread.text ≡ 0x2E ∷ (step point).unread.text) → (r : Result (ℕ × Here) Fault)
        → NumberRead start (step point) r → VersionRead start g (r >>= λ minor. Ok (Version major minor.0, minor.1))
    second dot r (read others minor t) = read_version (blanks ++ (digits ++ 0x2E ∷ others)) major minor
        (record {
          blanks = blanks;
          behind = behind.unread.text;
          first_digits = digits;
          fraction = (step point).unread.text;
          second_digits = others;
          rest = (over others (step point)).unread.text;
          parts = a;
          first_number = subst (λ (l : List ℕ). NumberStands behind.unread.text digits l major) dot s;
          second_number = t;
          is = refl;
        })
        refl (sym (over-append blanks (digits ++ 0x2E ∷ others) g ∙ over-append digits (0x2E ∷ others) behind))
    second dot r (wrong w) = wrong_version (second_wrong a
        (subst (λ (l : List ℕ). NumberStands behind.unread.text digits l major) dot s) w)

    point_if : (v : Bool) → (next_char point == 0x2E) ≡ v
        → VersionRead start g ((if v then version_number start (step point) else fails_at MissingYamlVersionSeparator
        start) >>= λ minor. Ok (Version major minor.0, minor.1))
    point_if true e =
        let is : next_char point ≡ 0x2E = grind (arith, nat_tests) in
        let p = seen (λ c. c == 0x2E) point refl e in
        second (p.is ∙ ap (λ c. c ∷ (step point).unread.text) is) (version_number start (step point))
        (number start (step point))
    point_if false e = wrong_version (no_point a s e)

    pub point_read : VersionRead start g (minor_number start point >>= λ minor. Ok (Version major minor.0, minor.1))
    unfolding minor_number
    point_read = point_if (next_char point == 0x2E) refl

  first_read : (r : Result (ℕ × Here) Fault) → NumberRead start behind r
      → VersionRead start g (r >>= λ major. minor_number start major.1 >>= λ minor. Ok
      (Version major.0 minor.0, minor.1))
  first_read r (read digits n s) = point_read digits n s
  first_read r (wrong w) = wrong_version (first_wrong a w)

pub version_reads : (start : Mark) (g : Here) → VersionRead start g (version_directive start g)
version_reads start g =
    let b = all_over is_blank no_blank_nul g in
    subst (λ (i : Here). VersionRead start g (version_number start i >>= λ major. minor_number start major.1 >>=
    λ minor. Ok (Version major.0 minor.0, minor.1))) (sym b.2)
    (first_read start g b.0 b.1 (version_number start (over b.0 g)) (number start (over b.0 g)))

point_is : (start : Mark) (g : Here) (rest : List ℕ) → g.unread.text ≡ 0x2E ∷ rest
    → minor_number start g ≡ version_number start (step g)
unfolding minor_number
point_is start g rest t = cond-true (next_char g == 0x2E) _ _ (ap (λ (l : List ℕ). first l == 0x2E) t)

pub version_is : (start : Mark) (g : Here) (source : List ℕ) (major minor : ℕ)
    → VersionStands g.unread.text source major minor
    → version_directive start g ≡ Ok (Version major minor, over source g)
version_is start g source major minor s =
    let b = over s.blanks g in
    let t : b.unread.text ≡ s.behind = over_text s.blanks s.behind g s.parts.whole in
    let f : NumberStands b.unread.text s.first_digits (0x2E ∷ s.fraction) major =
    subst (λ (l : List ℕ). NumberStands l s.first_digits (0x2E ∷ s.fraction) major) (sym t) s.first_number in
    let p = over s.first_digits b in
    let u : p.unread.text ≡ 0x2E ∷ s.fraction = over_text s.first_digits (0x2E ∷ s.fraction) b f.is.whole in
    let v : (step p).unread.text ≡ s.fraction = stepped_text p 0x2E s.fraction u in
    ap (λ (i : Here). version_number start i >>= λ major. minor_number start major.1 >>= λ minor. Ok
    (Version major.0 minor.0, minor.1)) (all_past is_blank no_blank_nul g s.blanks s.behind s.parts)
    ∙ ap (λ r. r >>= λ major. minor_number start major.1 >>= λ minor. Ok (Version major.0 minor.0, minor.1))
    (number_is start b s.first_digits (0x2E ∷ s.fraction) major f)
    ∙ ap (λ r. r >>= λ minor. Ok (Version major minor.0, minor.1))
    (point_is start p s.fraction u ∙ number_is start (step p) s.second_digits s.rest minor
    (subst (λ (l : List ℕ). NumberStands l s.second_digits s.rest minor) (sym v) s.second_number))
    ∙ ap (λ (i : Here). Ok (Version major minor, i))
    (sym (over-append s.first_digits (0x2E ∷ s.second_digits) b)
    ∙ sym (over-append s.blanks (s.first_digits ++ 0x2E ∷ s.second_digits) g)
    ∙ ap (λ (l : List ℕ). over l g) (sym s.is))
