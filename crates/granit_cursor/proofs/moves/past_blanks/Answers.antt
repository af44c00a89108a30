use Rattle.std.proofs.Common.{ℕ, ap, ◌∙◌, subst}
use Rattle.granit_base.specs.Classes.{is_blank}
use Rattle.granit_lexemes.specs.Here.{Here}
use Rattle.granit_lexemes.specs.Moves.{steps}
use Rattle.granit_cursor.specs.Reading.{Stands}
use Rattle.granit_cursor.proofs.MoveLemmas.{steps_past}
use Rattle.granit_cursor.proofs.moves.past_blanks.Goals as goal

pub returns-clause-here : goal.returns-clause-here
returns-clause-here g c = λ h k.
    let taken = c.skip_while_blank.ensures.here h k in
    subst (λ (now : Here). Stands g.T.Input.unread c.skip_while_blank.new.self now)
    (ap (λ (n : ℕ). steps n h) taken.0 ∙ steps_past is_blank h) taken.1
