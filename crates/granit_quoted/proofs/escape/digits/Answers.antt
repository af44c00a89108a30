use Rattle.std.proofs.Common.{◌≡◌, ◌+◌, ◌-◌, ◌*◌, ◌<◌, ℕ, true, false, ap, sym, ◌∙◌, arith}
use Rattle.granit_base.specs.Classes.{is_hex, hex_value}
use Rattle.granit_input.proofs.OriginLemmas.{goes_on}
use Rattle.granit_lexemes.specs.Here.{next_char, step}
use Rattle.granit_lexemes.specs.QuotedScalar.{digits_or}
use Rattle.granit_quoted.specs.QuotedCode.{hex_refusal}
use Rattle.granit_lexemes.proofs.DecodingLemmas.{digit_below, digits_fit, digit_space, digit_more}
use Rattle.granit_quoted.proofs.EscapeLemmas.{digits_go, digits_stop, digits_end}
use Rattle.granit_quoted.proofs.escape.digits.Goals as goal

pub returns-then-not-is_hex-clause-here : goal.returns-then-not-is_hex-clause-here
returns-then-not-is_hex-clause-here g c = λ h k.
    let told = c.digits.invariant.told h k in
    let looked = c.look.ensures.here told.0 told.1 in
    let seen : c.peek-digit.result ≡ next_char told.0 = c.peek-digit.ensures.value told.0.unread
    (rw c.input.ensures looked.0) in
    let none : is_hex (next_char told.0) ≡ false = ap is_hex (sym seen) ∙ sym c.is_hex.ensures ∙ c.if-not-is_hex.true in
    λ other. rw (c.refuse_at.ensures.refusal, c.refuse_at.ensures.kept, c.hex_kind.ensures.kind)
    (sym told.2 ∙ digits_stop (hex_refusal c.args.second) c.args.start c.args.count c.digits.i c.digits.number told.0
    (omega (arith, c.digits-test.true)) none)

pub overflow_mul-number : goal.overflow_mul-number
overflow_mul-number g c =
    let more = digits_fit (c.digits.i + 1) (c.digits.number * 16) (omega (arith, c.requires, c.digits-test.true))
    (digit_space c.digits.i c.digits.number c.digits.invariant.fits) in
    omega (arith, more)

pub overflow_add-number : goal.overflow_add-number
overflow_add-number g c =
    let small : c.as_hex.result < 16 = rw c.as_hex.ensures
    (digit_below c.peek-digit.result (sym c.is_hex.ensures ∙ c.if-not-is_hex.false)) in
    let more = digits_fit (c.digits.i + 1) (c.digits.number * 16 + c.as_hex.result)
    (omega (arith, c.requires, c.digits-test.true))
    (digit_more c.digits.i c.digits.number c.as_hex.result c.digits.invariant.fits small) in
    omega (arith, more)

pub digits-preserved : goal.digits-preserved
digits-preserved g c =
    let small : c.as_hex.result < 16 = rw c.as_hex.ensures
    (digit_below c.peek-digit.result (sym c.is_hex.ensures ∙ c.if-not-is_hex.false)) in
    let kept = c.digits.invariant.moves in
    record {
      told = λ h k.
          let told = c.digits.invariant.told h k in
          let looked = c.look.ensures.here told.0 told.1 in
          let seen : c.peek-digit.result ≡ next_char told.0 = c.peek-digit.ensures.value told.0.unread
          (rw c.input.ensures looked.0) in
          let some : is_hex (next_char told.0) ≡ true = ap is_hex (sym seen) ∙ sym c.is_hex.ensures
          ∙ c.if-not-is_hex.false in
          let digit : c.as_hex.result ≡ hex_value (next_char told.0) = c.as_hex.ensures ∙ ap hex_value seen in (
            step told.0,
            c.step.ensures.here told.0 looked,
            ap (λ (d : ℕ). digits_or (hex_refusal c.args.second) c.args.start (c.args.count - (c.digits.i + 1))
                (c.digits.number * 16 + d) (step told.0)) digit
                ∙ sym (digits_go (hex_refusal c.args.second) c.args.start c.args.count c.digits.i c.digits.number told.0
                (omega (arith, c.digits-test.true)) some)
                ∙ told.2,
          );
      fits = digit_more c.digits.i c.digits.number c.as_hex.result c.digits.invariant.fits small;
      moves = (
        omega (arith, kept.0, c.look.ensures.moves.0, c.step.ensures.moves.0),
        goes_on _ _ _ kept.1
            (goes_on _ _ _ c.look.ensures.moves.1 c.step.ensures.moves.1),
        λ start before. c.step.ensures.moves.2 start (c.look.ensures.moves.2 start (kept.2 start before)),
      );
    }

pub returns-clause-here : goal.returns-clause-here
returns-clause-here g c = λ h k.
    let told = c.digits.invariant.told h k in (
      told.0,
      told.1,
      sym told.2 ∙ digits_end (hex_refusal c.args.second) c.args.start c.args.count c.digits.i
          c.digits.number told.0 (omega (arith, c.digits-test.false)),
    )
