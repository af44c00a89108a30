use Rattle.std.proofs.Common.{◌≡◌, true, false, sym, ap, ◌∙◌}
use Rattle.granit_base.specs.Classes.{is_break}
use Rattle.granit_base.specs.Written.{string_chars}
use Rattle.granit_lexemes.specs.Basics.{past_break}
use Rattle.granit_lexemes.specs.BlockScalar.{indented}
use Rattle.granit_lexemes.specs.Here.{next_char}
use Rattle.granit_block.proofs.SpaceLemmas.{empty_more, empty_done}
use Rattle.granit_block.proofs.spaces.take_empty_line.Goals as goal

pub returns-then-not-is_break-clause-here : goal.returns-then-not-is_break-clause-here
returns-then-not-is_break-clause-here g c = λ h k.
    let column = c.args.column in
    let now = indented column h in
    let looked = c.look.ensures.here now (c.indent.ensures.here h k) in
    let seen : c.peek.result ≡ next_char now = c.peek.ensures.value now.unread (rw c.input.ensures looked.0) in
    let none : is_break (next_char now) ≡ false = ap is_break (sym seen) ∙ sym c.is_break.ensures
    ∙ c.if-not-is_break.true in
    (now, looked, empty_done column (string_chars c.args.empty.now) h none)

pub returns-clause-here : goal.returns-clause-here
returns-clause-here g c = λ h k.
    let column = c.args.column in
    let now = indented column h in
    let looked = c.look.ensures.here now (c.indent.ensures.here h k) in
    let seen : c.peek.result ≡ next_char now = c.peek.ensures.value now.unread (rw c.input.ensures looked.0) in
    let some : is_break (next_char now) ≡ true = ap is_break (sym seen) ∙ sym c.is_break.ensures
    ∙ c.if-not-is_break.false in (
      past_break now,
      c.past_break.ensures.here now looked,
      empty_more column (string_chars c.args.empty.now)
          (string_chars c.push_char.new.out) h some c.in_ok-push_char.ensures.appended,
    )
