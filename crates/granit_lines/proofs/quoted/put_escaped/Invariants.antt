use Rattle.std.proofs.Common.{◌≡◌, ◌+◌, ◌*◌, ◌≤◌, ◌++◌, length, take}
use denote.Text.{Utf8}
use denote.Shadow.{shadow}
use Rattle.std.specs.Str.{chars}
use Rattle.granit_lexemes.specs.Line.{quoted_line_text}
use Rattle.granit_lines.proofs.quoted.put_escaped.Given as goal

abbrev pub invariant-pieces : goal.invariant-pieces
invariant-pieces l = record {
  utf8 : shadow (Utf8 l.rest);
  size : length l.room ≡ length l.fn.room;
  fits : l.end + 6 * length l.rest ≤ l.at + 6 * length l.text;
  told : take l.end l.room ++ quoted_line_text (chars l.rest) ≡ take l.at l.fn.room ++ quoted_line_text (chars l.text);
}

abbrev pub decreases-pieces : goal.decreases-pieces
decreases-pieces l = length l.rest
