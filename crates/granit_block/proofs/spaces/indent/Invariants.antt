use Rattle.std.proofs.Common.{◌≡◌, ◌≤◌}
use Rattle.granit_lexemes.specs.BlockScalar.{indented}
use Rattle.granit_lexemes.specs.Here.{Here}
use Rattle.granit_cursor.specs.Reading.{Stands, Moves}
use Rattle.granit_block.proofs.spaces.indent.Given as goal

abbrev pub invariant-spaces : goal.invariant-spaces
invariant-spaces g l = record {
  told : (h : Here) → Stands g.T.Input.unread l.fn.cursor h
      → (now : Here) × Stands g.T.Input.unread l.cursor now × (indented l.column now ≡ indented l.column h);
  window : 1 ≤ g.T.Input.window l.cursor.input;
  moves : Moves g.T.Input.unread g.T.Input.left g.T.Input.origin l.fn.cursor l.cursor;
}

abbrev pub decreases-spaces : goal.decreases-spaces
decreases-spaces g l = g.T.Input.left l.cursor.input
