use Rattle.std.proofs.Common.{◌≡◌}
use Rattle.granit_base.specs.Written.{string_chars}
use Rattle.granit_cursor.specs.Reading.{Stands, Moves}
use Rattle.granit_lexemes.specs.Here.{Here}
use Rattle.granit_lexemes.specs.Pieces.{with_front}
use Rattle.granit_lexemes.specs.Tags.{decoded}
use Rattle.granit_properties.specs.UriCode.{uri_test, budget_of, uri_whole}
use Rattle.granit_properties.proofs.uri.read_uri.Given as goal

abbrev pub invariant-turns : goal.invariant-turns
invariant-turns g l = record {
  told : (h : Here) → Stands g.T.Input.unread l.fn.cursor h
      → (now : Here) × Stands g.T.Input.unread l.cursor now
      × (uri_whole l.uri l.start l.limit l.parts now
      ≡ with_front (string_chars l.fn.value) (decoded (uri_test l.uri) l.start (budget_of l.limit l.fn.left) h));
  moves : Moves g.T.Input.unread g.T.Input.left g.T.Input.origin l.fn.cursor l.cursor;
}

abbrev pub decreases-turns : goal.decreases-turns
decreases-turns g l = g.T.Input.left l.cursor.input
