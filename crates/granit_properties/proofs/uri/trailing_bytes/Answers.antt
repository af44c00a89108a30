use Rattle.std.proofs.Common.{◌≡◌, ◌+◌, ◌-◌, true, false, sym, ap, ◌∙◌, arith}
use Rattle.std.proofs.lemmas.Result.{err_from_is_err_and}
use Rattle.granit_base.specs.Classes.{is_within}
use Rattle.granit_input.proofs.OriginLemmas.{goes_on}
use Rattle.granit_lexemes.specs.Tags.{trailing_bytes}
use Rattle.granit_properties.specs.UriCode.{budget_of, uri_at}
use Rattle.granit_properties.proofs.UriLemmas.{state_is, byte_on, byte_wrong, byte_fails, bytes_end}
use Rattle.granit_properties.proofs.uri.trailing_bytes.Goals as goal

pub returns-in_err-byte-clause-here : goal.returns-in_err-byte-clause-here
returns-in_err-byte-clause-here g c = λ h k.
    let told = c.bytes.invariant.told h k in
    let p = err_from_is_err_and c.from_residual.result c.from_residual.ensures.1 in
    rw (p.1, p.2, ← told.2) (byte_fails c.args.start c.args.count c.bytes.i c.bytes.parts.bytes.items
    (uri_at told.0 (budget_of c.args.limit c.bytes.parts.left)) c.in_err-byte.field-0.0
    (omega (arith, c.bytes-test.true)) (c.in_err-byte.ensures.here told.0 told.1))

pub returns-then-not-is_trailing-clause-here : goal.returns-then-not-is_trailing-clause-here
returns-then-not-is_trailing-clause-here g c = λ h k.
    let told = c.bytes.invariant.told h k in
    let read = c.in_ok-byte.ensures.here told.0 told.1 in
    let without : is_within 0x80 0xBF c.in_ok-byte.byte ≡ false = sym c.is_trailing.ensures
    ∙ c.if-not-is_trailing.true in
    λ other. rw (c.from_kind.ensures, ← told.2)
    (byte_wrong c.args.start c.args.count c.bytes.i c.in_ok-byte.byte c.bytes.parts.bytes.items
    (uri_at told.0 (budget_of c.args.limit c.bytes.parts.left)) read.0 (omega (arith, c.bytes-test.true)) read.2
    without)

pub bytes-preserved : goal.bytes-preserved
bytes-preserved g c =
    let kept = c.bytes.invariant.moves in
    record {
      told = λ h k.
          let told = c.bytes.invariant.told h k in
          let read = c.in_ok-byte.ensures.here told.0 told.1 in
          let within : is_within 0x80 0xBF c.in_ok-byte.byte ≡ true = sym c.is_trailing.ensures
          ∙ c.if-not-is_trailing.false in
          let on = byte_on c.args.start c.args.count c.bytes.i c.in_ok-byte.byte c.bytes.parts.bytes.items
          (uri_at told.0 (budget_of c.args.limit c.bytes.parts.left)) read.0 (omega (arith, c.bytes-test.true))
          read.2 within in (
            read.0.here,
            read.1.0,
            rw c.in_ok-push.ensures.items (ap (trailing_bytes c.args.start (c.args.count - (c.bytes.i + 1)) _)
                (sym (state_is read.0 (budget_of c.args.limit c.escaped_byte.new.left) read.1.1)) ∙ on) ∙ told.2,
          );
      value = c.bytes.invariant.value;
      moves = (
        omega (arith, kept.0, c.in_ok-byte.ensures.moves.0),
        goes_on _ _ _ kept.1 c.in_ok-byte.ensures.moves.1,
        λ start before. c.in_ok-byte.ensures.moves.2 start (kept.2 start before),
      );
    }

pub returns-clause-here : goal.returns-clause-here
returns-clause-here g c = λ h k.
    let told = c.bytes.invariant.told h k in (
      told.0,
      told.1,
      sym told.2 ∙ bytes_end c.args.start c.args.count c.bytes.i c.bytes.parts.bytes.items
          (uri_at told.0 (budget_of c.args.limit c.bytes.parts.left)) (omega (arith, c.bytes-test.false)),
    )
