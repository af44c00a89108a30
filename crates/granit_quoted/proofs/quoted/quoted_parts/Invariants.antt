use Rattle.std.proofs.Common.{◌≡◌}
use Rattle.granit_lexemes.specs.Here.{Here}
use Rattle.granit_quoted.specs.QuotedCode.{quoted_whole}
use Rattle.granit_cursor.specs.Reading.{Stands, Moves}
use Rattle.granit_cursor.specs.Tokens.{layout_data}
use Rattle.granit_quoted.proofs.quoted.quoted_parts.Given as goal

abbrev pub invariant-turns : goal.invariant-turns
invariant-turns g l = record {
  told : (h : Here) → Stands g.T.Input.unread l.fn.cursor h
      → (now : Here) × Stands g.T.Input.unread l.cursor now
      × (quoted_whole l.single (layout_data l.at) l.start l.parts now
      ≡ quoted_whole l.single (layout_data l.at) l.start l.fn.parts h);
  moves : Moves g.T.Input.unread g.T.Input.left g.T.Input.origin l.fn.cursor l.cursor;
}

abbrev pub decreases-turns : goal.decreases-turns
decreases-turns g l = g.T.Input.left l.cursor.input
