-- Where reading may have come from a place: how far it went isn't said, but that it counted as reading does.
use Rattle.std.specs.Prelude.{◌≡◌}
use Rattle.granit_lexemes.specs.Here.{Here, next_char, step, mid_line}
use Rattle.granit_lexemes.specs.Moves.{past_prefix_mark}

-- a place that a reader comes to from another
pub data Onward (start : Here) : Here → Type 0 where
  there : Onward start start
  stepped : {at : Here} → Onward start at → Onward start (step at)
  -- over a byte-order mark in column 0, which counts no column
  over_mark : {at : Here} → Onward start at → next_char at ≡ 0xFEFF → at.place.column ≡ 0
      → Onward start (past_prefix_mark at)
  -- something stands before it on its line
  begun : {at : Here} → Onward start at → Onward start (mid_line at)
