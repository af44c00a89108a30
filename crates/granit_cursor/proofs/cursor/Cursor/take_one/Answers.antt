use Rattle.std.proofs.Common.{◌<◌, refl, arith}
use Rattle.granit_lexemes.specs.Here.{next_char}
use Rattle.granit_cursor.proofs.MoveLemmas.{stands_at, lands_shown}
use Rattle.granit_cursor.proofs.cursor.Cursor.take_one.Goals as goal

pub returns-clause-here : goal.returns-clause-here
returns-clause-here g c = λ h k.
    let stood = stands_at g.T.Input.unread _ _ h c.self.view_is k in
    let looked = c.lookahead.ensures.unread h.unread stood.0 in
    let seen = c.peek.ensures.value h.unread looked in
    let above : 0x20 < next_char h = omega (arith, seen) in
    rw c.clear_tab.ensures
    (lands_shown g.T.Input.unread _ _ h above stood (c.skip.ensures.unread h.unread looked) refl refl refl)
