use Rattle.std.proofs.Common.{Bool, subst, if◌then◌else◌, arith}
use Rattle.granit_runs.specs.Lines.{is_line_gap}
use Rattle.granit_input.proofs.OriginLemmas.{goes_on}
use Rattle.granit_lexemes.specs.Here.{Here, past}
use Rattle.granit_cursor.specs.Reading.{Stands}
use Rattle.granit_content.proofs.LineGapLemmas.{visible_clear, gap_of_lines}
use Rattle.granit_content.proofs.gaps.past_gap.Goals as goal

pub returns-then-take_lines-clause-here : goal.returns-then-take_lines-clause-here
returns-then-take_lines-clause-here g c = λ h k.
    let lines = subst (λ (b : Bool). Stands g.T.Input.unread c.take_lines.new.self
    (if b then past is_line_gap h else h)) c.if-take_lines.true (c.take_lines.ensures.here h k) in
    let seen = c.take_lines.ensures.clear c.if-take_lines.true (past is_line_gap h) lines in
    subst (λ (now : Here). Stands g.T.Input.unread c.take_lines.new.self now) (gap_of_lines c.args.may_prefix h seen)
    lines

pub returns-then-take_lines-clause-clear : goal.returns-then-take_lines-clause-clear
returns-then-take_lines-clause-clear g c = λ h k.
    visible_clear c.args.may_prefix h (c.take_lines.ensures.clear c.if-take_lines.true h k)

pub returns-then-take_lines-clause-window : goal.returns-then-take_lines-clause-window
returns-then-take_lines-clause-window g c = omega (arith, c.take_lines.ensures.looks c.if-take_lines.true)

pub returns-clause-here : goal.returns-clause-here
returns-clause-here g c = λ h k.
    c.pass_by_turns.ensures.here h (subst (λ (b : Bool). Stands g.T.Input.unread c.take_lines.new.self
    (if b then past is_line_gap h else h)) c.if-take_lines.false (c.take_lines.ensures.here h k))

pub returns-clause-moves : goal.returns-clause-moves
returns-clause-moves g c = (
  omega (arith, c.take_lines.ensures.moves.0, c.pass_by_turns.ensures.moves.0),
  goes_on _ _ _ c.take_lines.ensures.moves.1 c.pass_by_turns.ensures.moves.1,
  λ start before. c.pass_by_turns.ensures.moves.2 start (c.take_lines.ensures.moves.2 start before),
)
