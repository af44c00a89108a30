use Rattle.std.proofs.Common.{refl, sym, ap, arith}
use Rattle.granit_runs.specs.Lines.{is_line_gap}
use Rattle.granit_cursor.proofs.LineLemmas.{lands_lines, past_on}
use Rattle.granit_cursor.proofs.MoveLemmas.{stands_at}
use Rattle.granit_cursor.proofs.OnwardLemmas.{stays}
use Rattle.granit_cursor.proofs.cursor.Cursor.take_lines.Goals as goal

pub returns-in-Some-clause-here : goal.returns-in-Some-clause-here
returns-in-Some-clause-here g c = λ h k.
    let stood = stands_at g.T.Input.unread _ _ h c.self.view_is k in
    let taken = c.in-Some.ensures.takes h.unread stood.0 in
    lands_lines g.T.Input.unread c.in-Some.count c.in-Some.lines c.in-Some.spaces _ _ h taken.0 stood taken.1 refl refl
    refl

pub returns-in-Some-clause-moves : goal.returns-in-Some-clause-moves
returns-in-Some-clause-moves g c =
    let same = sym (ap (λ r. r.input) c.self.view_is) in (
      rw same (omega (arith, c.in-Some.ensures.moves.0)),
      rw same c.in-Some.ensures.moves.2,
      past_on g.T.Input.unread _ _ (ap (λ r. r.lost) c.self.view_is) is_line_gap (returns-in-Some-clause-here g c),
    )

pub returns-in-None-clause-moves : goal.returns-in-None-clause-moves
returns-in-None-clause-moves g c =
    let same = sym (ap (λ r. r.input) c.self.view_is) in (
      rw same (omega (arith, c.in-None.ensures.moves.0)),
      rw same c.in-None.ensures.moves.2,
      stays g.T.Input.unread _ _ (ap (λ r. r.lost) c.self.view_is) (λ h k.
          let stood = stands_at g.T.Input.unread _ _ h c.self.view_is k in
          (c.in-None.ensures.takes h.unread stood.0, stood.1, stood.2, stood.3)),
    )
