use Rattle.std.proofs.Common.{◌≡◌, ◌<◌, true, false, sym, ap, ◌∙◌, arith}
use Rattle.granit_cursor.specs.Reading.{Stands}
use Rattle.granit_base.specs.Classes.{is_digit}
use Rattle.granit_input.proofs.OriginLemmas.{goes_nowhere, goes_on}
use Rattle.granit_lexemes.specs.Here.{next_char, step}
use Rattle.granit_runs.proofs.RunLemmas.{digit_some}
use Rattle.granit_directives.proofs.VersionLemmas.{digit_value, digits_begin, digits_on, digits_fit}
use Rattle.granit_directives.proofs.VersionLemmas.{digit_hex, number_result, number_long}
use Rattle.granit_directives.proofs.version.version_number.Goals as goal

pub digits-init : goal.digits-init
digits-init g c = record {
  told = λ h k. (h, k, digits_begin h);
  few = omega arith;
  fits = omega arith;
  moves =
      (omega arith, goes_nowhere _, λ start before. before);
}

pub returns-then-not-is_digit-clause-here : goal.returns-then-not-is_digit-clause-here
returns-then-not-is_digit-clause-here g c = λ h k.
    let told = c.digits.invariant.told h k in
    let looked = c.look.ensures.here told.0 told.1 in
    let seen : c.peek-digit.result ≡ next_char told.0 =
    c.peek-digit.ensures.value told.0.unread (rw c.input.ensures looked.0) in
    let none : is_digit (next_char told.0) ≡ false = ap is_digit (sym seen) ∙ sym c.is_digit.ensures
    ∙ c.if-not-is_digit.true in
    number_result c.args.start h told.0 c.digits.count c.digits.number (Stands g.T.Input.unread c.look.new.self)
    c.some_number.result none told.2 c.digits.invariant.few looked c.some_number.ensures.given

pub as_hex-requires : goal.as_hex-requires
as_hex-requires g c = digit_hex c.peek-digit.result (sym c.is_digit.ensures ∙ c.if-not-is_digit.false)

pub returns-then-count-eq-MOST_DIGITS-clause-here : goal.returns-then-count-eq-MOST_DIGITS-clause-here
returns-then-count-eq-MOST_DIGITS-clause-here g c = λ h k.
    let told = c.digits.invariant.told h k in
    let looked = c.look.ensures.here told.0 told.1 in
    let seen : c.peek-digit.result ≡ next_char told.0 =
    c.peek-digit.ensures.value told.0.unread (rw c.input.ensures looked.0) in
    let some : is_digit (next_char told.0) ≡ true = ap is_digit (sym seen) ∙ sym c.is_digit.ensures
    ∙ c.if-not-is_digit.false in
    λ other. rw c.from_kind.ensures (number_long c.args.start h told.0 c.digits.number some
    (rw c.if-count-eq-MOST_DIGITS.true at told.2))

pub digits-smaller : goal.digits-smaller
digits-smaller g c =
    let some = c.peek-digit.ensures.some (digit_some c.peek-digit.result (sym c.is_digit.ensures
    ∙ c.if-not-is_digit.false)) in
    let there : 0 < g.T.Input.left c.look.new.self.input = rw (← c.input.ensures) some in
    omega (arith, there, c.look.ensures.moves.0, c.step.ensures.left)

pub digits-preserved : goal.digits-preserved
digits-preserved g c =
    let kept = c.digits.invariant.moves in
    let digit : is_digit c.peek-digit.result ≡ true = sym c.is_digit.ensures ∙ c.if-not-is_digit.false in
    let small : c.as_hex.result < 10 = rw c.as_hex.ensures (digit_value c.peek-digit.result digit).1 in
    let nine = c.if-count-eq-MOST_DIGITS.false in
    let few : c.digits.count < 9 = grind (arith, nine, c.digits.invariant.few) in
    record {
      told = λ h k.
          let told = c.digits.invariant.told h k in
          let looked = c.look.ensures.here told.0 told.1 in
          let seen : c.peek-digit.result ≡ next_char told.0 =
          c.peek-digit.ensures.value told.0.unread (rw c.input.ensures looked.0) in
          let some : is_digit (next_char told.0) ≡ true = ap is_digit (sym seen) ∙ digit in (
            step told.0,
            c.step.ensures.here told.0 looked,
            rw (c.as_hex.ensures, seen)
                (digits_on h told.0 c.digits.count c.digits.number some told.2),
          );
      few = omega (arith, few);
      fits = (digits_fit c.digits.count c.digits.number c.as_hex.result few c.digits.invariant.fits small).0;
      moves = (
        omega (arith, kept.0, c.look.ensures.moves.0, c.step.ensures.moves.0),
        goes_on _ _ _ kept.1
            (goes_on _ _ _ c.look.ensures.moves.1 c.step.ensures.moves.1),
        λ start before. c.step.ensures.moves.2 start (c.look.ensures.moves.2 start (kept.2 start before)),
      );
    }

pub overflow_mul-number : goal.overflow_mul-number
overflow_mul-number g c =
    let nine = c.if-count-eq-MOST_DIGITS.false in
    let few : c.digits.count < 9 = grind (arith, nine, c.digits.invariant.few) in
    let fit = (digits_fit c.digits.count c.digits.number 0 few c.digits.invariant.fits (omega arith)).1 in
    omega (arith, fit)

pub overflow_add-number : goal.overflow_add-number
overflow_add-number g c =
    let digit : is_digit c.peek-digit.result ≡ true = sym c.is_digit.ensures ∙ c.if-not-is_digit.false in
    let small : c.as_hex.result < 10 = rw c.as_hex.ensures (digit_value c.peek-digit.result digit).1 in
    let nine = c.if-count-eq-MOST_DIGITS.false in
    let few : c.digits.count < 9 = grind (arith, nine, c.digits.invariant.few) in
    let fit = (digits_fit c.digits.count c.digits.number c.as_hex.result few c.digits.invariant.fits small).1 in
    omega (arith, fit)
