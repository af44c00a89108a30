use Rattle.std.proofs.Common.{◌≡◌, ◌<◌, true}
use Rattle.granit_lexemes.specs.Here.{Here}
use Rattle.granit_plain.specs.PlainCode.{plain_state, plain_whole}
use Rattle.granit_plain.specs.PlainMemory.{OnlyBlanks}
use Rattle.granit_cursor.specs.Reading.{Stands, Moves}
use Rattle.granit_cursor.specs.Tokens.{layout_data}
use Rattle.granit_plain.proofs.plain.plain_parts.Given as goal

abbrev pub invariant-turns : goal.invariant-turns
invariant-turns g l = record {
  told : (h : Here) → Stands g.T.Input.unread l.fn.cursor h
      → (now : Here) × Stands g.T.Input.unread l.cursor now
      × (plain_whole (layout_data l.at) l.start l.parts now ≡ plain_whole (layout_data l.at) l.start l.fn.parts h);
  blanks : (h : Here) → Stands g.T.Input.unread l.fn.cursor h
      → OnlyBlanks (layout_data l.at) l.start (plain_state l.fn.parts h)
      → (l.parts.on_new_line ≡ true) × (l.start.place.line < l.cursor.place.line);
  moves : Moves g.T.Input.unread g.T.Input.left g.T.Input.origin l.fn.cursor l.cursor;
}

abbrev pub decreases-turns : goal.decreases-turns
decreases-turns g l = g.T.Input.left l.cursor.input
