use Rattle.std.proofs.Common.{◌≡◌, ◌==◌, ◌<◌, true, false, sym, ap, ◌∙◌, arith}
use Rattle.std.proofs.lemmas.Bool.Decides.{nat_tests}
use Rattle.std.proofs.lemmas.Result.{err_from_is_err_and}
use Rattle.granit_lexemes.specs.Here.{next_char}
use Rattle.granit_properties.specs.UriCode.{uri_test, budget_of, uri_at}
use Rattle.granit_properties.proofs.UriLemmas.{some_char, turn_escaped, turn_itself, turn_goes, turn_fails, turn_ends}
use Rattle.granit_properties.proofs.uri.take_turn.Goals as goal

pub returns-then-not-takes-clause-here : goal.returns-then-not-takes-clause-here
returns-then-not-takes-clause-here g c = λ h k.
    let looked = c.look.ensures.here h k in
    let seen : c.peek-c.result ≡ next_char h = c.peek-c.ensures.value h.unread (rw c.input.ensures looked.0) in (
      h,
      looked,
      turn_ends c.args.uri c.args.start c.args.limit c.args.parts.now h
          (ap (uri_test c.args.uri) (sym seen) ∙ sym c.takes.ensures ∙ c.if-not-takes.true),
    )

pub returns-in_err-take_escaped-clause-here : goal.returns-in_err-take_escaped-clause-here
returns-in_err-take_escaped-clause-here g c = λ h k.
    let p = err_from_is_err_and c.from_residual.result c.from_residual.ensures.1 in
    let looked = c.look.ensures.here h k in
    let seen : c.peek-c.result ≡ next_char h = c.peek-c.ensures.value h.unread (rw c.input.ensures looked.0) in
    let passes = ap (uri_test c.args.uri) (sym seen) ∙ sym c.takes.ensures ∙ c.if-not-takes.false in
    let sign : (next_char h == 0x25) ≡ true = ap (λ n. n == 0x25) (sym seen ∙ c.if-c-eq37.true) in
    rw (p.1, p.2) (turn_fails c.args.uri c.args.start c.args.limit c.args.parts.now h c.in_err-take_escaped.field-0.0
    (λ other. turn_escaped c.args.uri c.args.start (uri_at h (budget_of c.args.limit c.args.parts.now.left)) passes sign
    ∙ c.in_err-take_escaped.ensures.here h looked other))

pub returns-then-c-eq37-clause-here : goal.returns-then-c-eq37-clause-here
returns-then-c-eq37-clause-here g c = λ h k.
    let looked = c.look.ensures.here h k in
    let seen : c.peek-c.result ≡ next_char h = c.peek-c.ensures.value h.unread (rw c.input.ensures looked.0) in
    let passes = ap (uri_test c.args.uri) (sym seen) ∙ sym c.takes.ensures ∙ c.if-not-takes.false in
    let sign : (next_char h == 0x25) ≡ true = ap (λ n. n == 0x25) (sym seen ∙ c.if-c-eq37.true) in
    let taken = c.in_ok-take_escaped.ensures.here h looked in (
      taken.1,
      taken.2,
      turn_goes c.args.uri c.args.start c.args.limit c.args.parts.now c.take_escaped.new.parts h taken.1 taken.0
          (turn_escaped c.args.uri c.args.start (uri_at h (budget_of c.args.limit c.args.parts.now.left)) passes sign
          ∙ taken.3) taken.4,
    )

pub returns-in_err-take_itself-clause-here : goal.returns-in_err-take_itself-clause-here
returns-in_err-take_itself-clause-here g c = λ h k.
    let p = err_from_is_err_and c.from_residual-in_err-take_itself.result
    c.from_residual-in_err-take_itself.ensures.1 in
    let looked = c.look.ensures.here h k in
    let seen : c.peek-c.result ≡ next_char h = c.peek-c.ensures.value h.unread (rw c.input.ensures looked.0) in
    let passes = ap (uri_test c.args.uri) (sym seen) ∙ sym c.takes.ensures ∙ c.if-not-takes.false in
    let none = c.if-c-eq37.false in
    let other_sign : (next_char h == 0x25) ≡ false = rw (← seen) (grind (arith, nat_tests, none)) in
    rw (p.1, p.2) (turn_fails c.args.uri c.args.start c.args.limit c.args.parts.now h c.in_err-take_itself.field-0.0
    (λ other. turn_itself c.args.uri c.args.start (uri_at h (budget_of c.args.limit c.args.parts.now.left)) passes
    other_sign ∙ c.in_err-take_itself.ensures.here h looked other))

pub returns-clause-here : goal.returns-clause-here
returns-clause-here g c = λ h k.
    let looked = c.look.ensures.here h k in
    let seen : c.peek-c.result ≡ next_char h = c.peek-c.ensures.value h.unread (rw c.input.ensures looked.0) in
    let passes = ap (uri_test c.args.uri) (sym seen) ∙ sym c.takes.ensures ∙ c.if-not-takes.false in
    let none = c.if-c-eq37.false in
    let other_sign : (next_char h == 0x25) ≡ false = rw (← seen) (grind (arith, nat_tests, none)) in
    let taken = c.in_ok-take_itself.ensures.here h looked in (
      taken.1,
      taken.2,
      turn_goes c.args.uri c.args.start c.args.limit c.args.parts.now c.take_itself.new.parts h taken.1 taken.0
          (turn_itself c.args.uri c.args.start (uri_at h (budget_of c.args.limit c.args.parts.now.left)) passes
          other_sign ∙ taken.3) taken.4,
    )

pub returns-clause-left : goal.returns-clause-left
returns-clause-left g c =
    let some = c.peek-c.ensures.some (some_char c.args.uri c.peek-c.result
    (sym c.takes.ensures ∙ c.if-not-takes.false)) in
    let there : 0 < g.T.Input.left c.look.new.self.input = rw (← c.input.ensures) some in
    omega (arith, there, c.look.ensures.moves.0, c.in_ok-take_itself.ensures.left)
