use Rattle.std.proofs.Common.{◌≡◌}
use Rattle.granit_lexemes.specs.Here.{Here}
use Rattle.granit_block.specs.BlockCode.{block_whole}
use Rattle.granit_cursor.specs.Reading.{Stands, Moves}
use Rattle.granit_block.proofs.lines.past_lines.Given as goal

abbrev pub invariant-lines : goal.invariant-lines
invariant-lines g l = record {
  told : (h : Here) → Stands g.T.Input.unread l.fn.cursor h
      → (now : Here) × Stands g.T.Input.unread l.cursor now
      × (block_whole l.literal l.column l.lines now ≡ block_whole l.literal l.column l.fn.lines h);
  moves : Moves g.T.Input.unread g.T.Input.left g.T.Input.origin l.fn.cursor l.cursor;
}

abbrev pub decreases-lines : goal.decreases-lines
decreases-lines g l = g.T.Input.left l.cursor.input
