use Rattle.granit_base.specs.Written.{string_chars}
use Rattle.granit_lexemes.specs.Here.{Here}
use Rattle.granit_cursor.specs.Reading.{Stands, Moves}
use Rattle.granit_block.proofs.SpaceLemmas.{LeadingSo}
use Rattle.granit_block.proofs.spaces.past_leading_lines.Given as goal

abbrev pub invariant-lines : goal.invariant-lines
invariant-lines g l = record {
  told : (h : Here) → Stands g.T.Input.unread l.fn.cursor h
      → (now : Here) × Stands g.T.Input.unread l.cursor now
      × LeadingSo (string_chars l.fn.empty) (string_chars l.empty) l.widest h now;
  moves : Moves g.T.Input.unread g.T.Input.left g.T.Input.origin l.fn.cursor l.cursor;
}

abbrev pub decreases-lines : goal.decreases-lines
decreases-lines g l = g.T.Input.left l.cursor.input
