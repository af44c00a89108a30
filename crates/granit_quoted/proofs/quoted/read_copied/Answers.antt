use Rattle.std.specs.Str.{chars}
use Rattle.granit_cursor.specs.Tokens.{layout_data}
use Rattle.granit_quoted.specs.QuotedCode.{kept_chars, nothing_quoted}
use Rattle.granit_quoted.proofs.KeptLemmas.{taken_same}
use Rattle.granit_quoted.proofs.quoted.read_copied.Goals as goal

pub returns-clause-here : goal.returns-clause-here
returns-clause-here g c = λ h k.
    let begun = c.in_ok-behind.ensures.here h k in
    let at = layout_data c.args.at.now in
    rw (taken_same c.args.single at c.args.start c.in_ok-behind.behind
    (kept_chars nothing_quoted (chars c.args.front.now)) begun.0 h (begun.2 at c.args.start))
    at (c.read_parts.ensures.here begun.0 begun.1)
