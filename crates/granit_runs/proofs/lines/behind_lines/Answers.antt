use Rattle.std.proofs.lemmas.Str.{IsCharBoundary-from_drop, IsUtf8-from_is_utf8}
use Rattle.granit_runs.proofs.lines.behind_lines.Goals as goal

pub range_from-requires : goal.range_from-requires
range_from-requires c = λ some. IsCharBoundary-from_drop c.args.s.now c.args.count c.requires.within
    (IsUtf8-from_is_utf8 _ c.requires.utf8)
