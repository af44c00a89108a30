use Rattle.std.proofs.Common.{◌≡◌, ℕ, true, take, Some}
use Rattle.std.specs.Str.{chars}
use Rattle.granit_lexemes.specs.Here.{Here, mark_of}
use Rattle.granit_lexemes.specs.Pieces.{with_front}
use Rattle.granit_lexemes.specs.PlainScalar.{plain_start}
use Rattle.granit_cursor.specs.Reading.{Stands, Moves}
use Rattle.granit_cursor.specs.Tokens.{layout_data}
use Rattle.granit_cursor.proofs.MoveLemmas.{Along}
use Rattle.granit_plain.specs.PlainCode.{plain_rest}
use Rattle.granit_plain.proofs.line.pass_line.Given as goal

abbrev pub invariant-line : goal.invariant-line
invariant-line g l = record {
  told : (h : Here) → Stands g.T.Input.unread l.fn.cursor h → h.unread.lends ≡ true → Some l.from ≡ h.unread.offset
      → l.fn.start ≡ mark_of h
      → (m : ℕ) × (now : Here) × Stands g.T.Input.unread l.cursor now × Along m h now
      × (plain_rest (layout_data l.at) l.fn.start (plain_start h)
      ≡ with_front (take m h.unread.text) (plain_rest (layout_data l.at) l.fn.start (plain_start now)))
      × (chars l.line.front.now ≡ take m h.unread.text) × (l.line.end ≡ mark_of now);
  moves : Moves g.T.Input.unread g.T.Input.left g.T.Input.origin l.fn.cursor l.cursor;
}

abbrev pub decreases-line : goal.decreases-line
decreases-line g l = g.T.Input.left l.cursor.input
