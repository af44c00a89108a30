use Rattle.std.proofs.Common.{◌≡◌, ◌-◌}
use Rattle.granit_base.specs.Written.{string_chars}
use Rattle.granit_cursor.specs.Reading.{Stands, Moves}
use Rattle.granit_lexemes.specs.Here.{Here}
use Rattle.granit_lexemes.specs.Tags.{trailing_bytes}
use Rattle.granit_properties.specs.UriCode.{budget_of, uri_at}
use Rattle.granit_properties.proofs.uri.trailing_bytes.Given as goal

abbrev pub invariant-bytes : goal.invariant-bytes
invariant-bytes g l = record {
  told : (h : Here) → Stands g.T.Input.unread l.fn.cursor h
      → (now : Here) × Stands g.T.Input.unread l.cursor now
      × (trailing_bytes l.start (l.count - l.i) l.parts.bytes.items (uri_at now (budget_of l.limit l.parts.left))
      ≡ trailing_bytes l.start l.count l.fn.parts.bytes.items (uri_at h (budget_of l.limit l.fn.parts.left)));
  value : string_chars l.parts.value ≡ string_chars l.fn.parts.value;
  moves : Moves g.T.Input.unread g.T.Input.left g.T.Input.origin l.fn.cursor l.cursor;
}
