-- How a reader moves over several characters, and over a byte-order mark.
use Rattle.std.specs.Prelude.{ℕ, zero, suc, ◌+◌}
use Rattle.granit_base.specs.Place.{past_first}
use Rattle.granit_lexemes.specs.Here.{Here, step}

-- so many characters on, stopping at the end
unfoldable pub steps : ℕ → Here → Here
steps zero h = h
steps (suc n) h = steps n (step h)

-- over a byte-order mark in front of a document, which counts no column (5.2)
unfoldable pub past_prefix_mark : Here → Here
past_prefix_mark h = record {
  unread = past_first h.unread;
  place = record { index = h.place.index + 1; line = h.place.line; column = h.place.column };
  begins_line = h.begins_line;
  tab = h.tab;
}
