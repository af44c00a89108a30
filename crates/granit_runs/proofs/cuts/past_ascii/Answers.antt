use Rattle.std.proofs.lemmas.Str.{IsCharBoundary-from_drop, IsUtf8-from_is_utf8}
use Rattle.granit_runs.proofs.cuts.past_ascii.Goals as goal

pub range_from-requires : goal.range_from-requires
range_from-requires c = λ some. IsCharBoundary-from_drop c.args.s.now c.ascii_count-count.result
    c.ascii_count-count.ensures.front.within (IsUtf8-from_is_utf8 _ c.ascii_count-count.ensures.front.utf8)
