use Rattle.std.proofs.Common.{◌∙◌, sym, ap}
use Rattle.granit_base.specs.Classes.{is_blank}
use Rattle.granit_lexemes.specs.Moves.{steps}
use Rattle.granit_cursor.proofs.MoveLemmas.{stands_at, no_blanks}
use Rattle.granit_cursor.proofs.cursor.Cursor.skip_while_blank.Goals as goal

pub returns-then-not-is_blank-clause-here : goal.returns-then-not-is_blank-clause-here
unfolding steps
returns-then-not-is_blank-clause-here g c = λ h k.
    let looked = c.look.ensures.here h k in
    let stood = stands_at g.T.Input.unread _ _ h c.self.view_is looked in
    let seen = c.peek.ensures.value h.unread stood.0 in
    let none = sym (ap is_blank seen) ∙ sym c.is_blank.ensures ∙ c.if-not-is_blank.true in
    (no_blanks h.unread.text none, looked)
