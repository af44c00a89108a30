use Rattle.std.proofs.Common.{◌≡◌, ◌-◌, ◌<◌, ◌^◌}
use Rattle.granit_lexemes.specs.Here.{Here}
use Rattle.granit_lexemes.specs.QuotedScalar.{digits_or}
use Rattle.granit_quoted.specs.QuotedCode.{hex_refusal}
use Rattle.granit_cursor.specs.Reading.{Stands, Moves}
use Rattle.granit_quoted.proofs.escape.digits.Given as goal

abbrev pub invariant-digits : goal.invariant-digits
invariant-digits g l = record {
  told : (h : Here) → Stands g.T.Input.unread l.fn.cursor h
      → (now : Here) × Stands g.T.Input.unread l.cursor now
      × (digits_or (hex_refusal l.second) l.start (l.count - l.i) l.number now
      ≡ digits_or (hex_refusal l.second) l.start l.count 0 h);
  fits : l.number < 16 ^ l.i;
  moves : Moves g.T.Input.unread g.T.Input.left g.T.Input.origin l.fn.cursor l.cursor;
}
