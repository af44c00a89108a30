use Rattle.std.proofs.Common.{◌≡◌, ◌∙◌, subst}
use Rattle.granit_lexemes.specs.Here.{next_char}
use Rattle.granit_lexemes.specs.Moves.{steps}
use Rattle.granit_cursor.specs.Reading.{Stands}
use Rattle.granit_cursor.proofs.MoveLemmas.{stands_at, spaces_alone, spaces_more, steps_twice}
use Rattle.granit_cursor.proofs.cursor.Cursor.skip_blanks.Goals as goal

pub returns-then-peek-ne9-clause-here : goal.returns-then-peek-ne9-clause-here
returns-then-peek-ne9-clause-here g c = λ h k.
    let spaces = c.skip_spaces-spaces.ensures.here h k in
    let n = c.skip_spaces-spaces.result in
    let looked = c.look.ensures.here (steps n h) spaces.1 in
    let stood = stands_at g.T.Input.unread _ _ (steps n h) c.self.view_is looked in
    let seen : c.peek.result ≡ next_char (steps n h) = c.peek.ensures.value (steps n h).unread stood.0 in
    (spaces_alone n h spaces.0 (λ tab. c.if-peek-ne9.true (seen ∙ tab)), looked)

pub returns-clause-here : goal.returns-clause-here
returns-clause-here g c = λ h k.
    let spaces = c.skip_spaces-spaces.ensures.here h k in
    let n = c.skip_spaces-spaces.result in
    let looked = c.look.ensures.here (steps n h) spaces.1 in
    let rest = c.skip_from_tab.ensures.here (steps n h) looked in (
      spaces_more n c.skip_from_tab.result h spaces.0 rest.0,
      subst (Stands g.T.Input.unread c.skip_from_tab.new.self)
          (steps_twice n c.skip_from_tab.result h) rest.1,
    )
