use Rattle.std.proofs.Common.{◌≡◌, refl, sym, ◌∙◌}
use Rattle.granit_lexemes.specs.Here.{next_char, step}
use Rattle.granit_properties.specs.UriCode.{budget_of, uri_at}
use Rattle.granit_properties.proofs.UriLemmas.{byte_given}
use Rattle.granit_properties.proofs.uri.escaped_byte.Goals as goal

pub returns-then-is_hex-2-clause-here : goal.returns-then-is_hex-2-clause-here
returns-then-is_hex-2-clause-here g c = λ h k.
    let looked = c.look.ensures.here h k in
    let sign : next_char h ≡ 0x25 = sym (c.peek.ensures.value h.unread (rw c.input-3.ensures looked.0))
    ∙ c.if-peek-eq37.true in
    let high = c.peek_nth-high.ensures.value h.unread (rw c.input.ensures looked.0) in
    let low = c.peek_nth-low.ensures.value h.unread (rw c.input-2.ensures looked.0) in
    let after = c.step-then-is_hex-2-2.ensures.here (step (step h))
    (c.step-then-is_hex-2.ensures.here (step h) (c.step.ensures.here h looked)) in (
      uri_at (step (step (step h))) (budget_of c.args.limit c.spend.new.left),
      (after, refl),
      rw (c.as_hex.ensures, c.as_hex-then-is_hex-2.ensures)
          (byte_given c.args.start h (budget_of c.args.limit c.args.left.now) (budget_of c.args.limit c.spend.new.left)
          c.peek_nth-high.result c.peek_nth-low.result
          sign high low (sym c.is_hex.ensures ∙ c.if-is_hex.true)
          (sym c.is_hex-then-is_hex.ensures ∙ c.if-is_hex-2.true) c.in_ok-spend.ensures.spent),
    )
