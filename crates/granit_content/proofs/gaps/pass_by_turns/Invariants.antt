use Rattle.std.proofs.Common.{◌≡◌}
use Rattle.granit_cursor.specs.Reading.{Stands, Moves}
use Rattle.granit_lexemes.specs.Here.{Here}
use Rattle.granit_machine.specs.Gaps as spec
use Rattle.granit_content.proofs.gaps.pass_by_turns.Given as goal

abbrev pub invariant-gap : goal.invariant-gap
invariant-gap g l = record {
  told : (h : Here) → Stands g.T.Input.unread l.fn.at h
      → (now : Here) × Stands g.T.Input.unread l.at now
      × (spec.past_gap l.may_prefix now ≡ spec.past_gap l.may_prefix h);
  moves : Moves g.T.Input.unread g.T.Input.left g.T.Input.origin l.fn.at l.at;
}

abbrev pub decreases-gap : goal.decreases-gap
decreases-gap g l = g.T.Input.left l.at.input
