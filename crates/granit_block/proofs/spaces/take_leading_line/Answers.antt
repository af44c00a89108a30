use Rattle.std.proofs.Common.{◌≡◌, ℕ, [], ◌∷◌, Some, Ok, true, false, sym, ap, ◌∙◌, refl}
use Rattle.granit_base.specs.Classes.{is_break}
use Rattle.granit_base.specs.Place.{Mark}
use Rattle.granit_lexemes.specs.Basics.{past_break}
use Rattle.granit_lexemes.specs.BlockHeader.{is_space}
use Rattle.granit_lexemes.specs.Here.{next_char, past}
use Rattle.granit_block.proofs.SpaceLemmas.{leading_line, no_leading_line}
use Rattle.granit_block.proofs.spaces.take_leading_line.Goals as goal

pub returns-then-not-is_break-clause-here : goal.returns-then-not-is_break-clause-here
returns-then-not-is_break-clause-here g c = λ h k.
    let now = past is_space h in
    let looked = c.look.ensures.here now (c.past_spaces.ensures.here h k) in
    let seen : c.peek.result ≡ next_char now = c.peek.ensures.value now.unread (rw c.input.ensures looked.0) in
    let none : is_break (next_char now) ≡ false = ap is_break (sym seen) ∙ sym c.is_break.ensures
    ∙ c.if-not-is_break.true in
    (now, looked, no_leading_line h none, refl)

pub returns-clause-here : goal.returns-clause-here
returns-clause-here g c = λ h k.
    let now = past is_space h in
    let looked = c.look.ensures.here now (c.past_spaces.ensures.here h k) in
    let seen : c.peek.result ≡ next_char now = c.peek.ensures.value now.unread (rw c.input.ensures looked.0) in
    let some : is_break (next_char now) ≡ true = ap is_break (sym seen) ∙ sym c.is_break.ensures
    ∙ c.if-not-is_break.false in
    let width : c.col-width.result ≡ now.place.column = c.col-width.ensures
    ∙ ap (λ (m : Mark). m.place.column) (c.mark.ensures.here now looked) in (
      past_break now,
      c.past_break.ensures.here now looked,
      leading_line h some ∙ ap (λ (w : ℕ). Ok (Some (w ∷ []), past_break now)) (sym width),
      c.in_ok-push_char.ensures.appended,
    )
