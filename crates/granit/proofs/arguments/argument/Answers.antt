use Rattle.std.proofs.Common.{◌≡◌, ◌∙◌, ℕ, List, take, ap, arith}
use Rattle.std.proofs.lemmas.List.{with_items_is}
use Rattle.granit.specs.Words.{owned_word}
use Rattle.granit.proofs.WordLemmas.{found, missing}
use Rattle.granit.proofs.arguments.argument.Goals as goal

pub returns-in-Ok : goal.returns-in-Ok
returns-in-Ok g c =
    let shown : c.deref.result.now ≡ c.fill.new.buffer =
    c.deref.ensures.value ∙ with_items_is c.in_ok-buffer.buffer c.fill.new.buffer
    (omega (arith, c.deref_mut.ensures.len)) in
    found (g.A.Arguments.all c.args.arguments.now) c.args.i c.in-Ok.count c.fill.new.buffer _ c.in-Ok.ensures.fills (
    c.in_ok-word-in-Ok.ensures ∙ ap (λ (bytes : List ℕ). owned_word (take c.in-Ok.count bytes)) shown)

pub returns-in-Err-NotPresent : goal.returns-in-Err-NotPresent
returns-in-Err-NotPresent g c = missing (g.A.Arguments.all c.args.arguments.now) c.args.i c.fill.new.buffer
    c.in-Err-NotPresent.field-0 c.in-Err-NotPresent.ensures.fills c.in-Err-NotPresent.field-0-is
