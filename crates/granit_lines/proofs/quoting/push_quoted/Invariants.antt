use Rattle.std.proofs.Common.{◌≡◌, ◌++◌, length}
use Rattle.std.specs.Str.{chars}
use denote.Text.{Utf8}
use denote.Shadow.{shadow}
use Rattle.granit_lexemes.specs.Line.{quoted_line_text}
use Rattle.granit_lines.proofs.quoting.push_quoted.Given as goal

abbrev pub invariant-pieces : goal.invariant-pieces
invariant-pieces l = record {
  utf8 : shadow (Utf8 l.rest);
  told : l.out.items ++ quoted_line_text (chars l.rest) ≡ l.fn.out.items ++ quoted_line_text (chars l.text);
}

abbrev pub decreases-pieces : goal.decreases-pieces
decreases-pieces l = length (chars l.rest)
