use Rattle.std.proofs.Common.{◌<◌, ◌≤◌, ◌^◌}
use Rattle.granit_cursor.specs.Reading.{Stands, Moves}
use Rattle.granit_lexemes.specs.Here.{Here}
use Rattle.granit_directives.proofs.VersionLemmas.{Digits}
use Rattle.granit_directives.proofs.version.version_number.Given as goal

abbrev pub invariant-digits : goal.invariant-digits
invariant-digits g l = record {
  told : (h : Here) → Stands g.T.Input.unread l.fn.cursor h → (now : Here) × Stands g.T.Input.unread l.cursor now
      × Digits h now l.count l.number;
  few : l.count ≤ 9;
  fits : l.number < 10 ^ l.count;
  moves : Moves g.T.Input.unread g.T.Input.left g.T.Input.origin l.fn.cursor l.cursor;
}

abbrev pub decreases-digits : goal.decreases-digits
decreases-digits g l = g.T.Input.left l.cursor.input
