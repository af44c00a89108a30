use Rattle.std.proofs.lemmas.Str.{IsCharBoundary-from_drop, IsUtf8-from_is_utf8}
use Rattle.granit_runs.proofs.cuts.past_white.Goals as goal

pub range_from-requires : goal.range_from-requires
range_from-requires c = λ some. IsCharBoundary-from_drop c.args.s.now c.white_front-count.result.0
    c.white_front-count.ensures.front.within (IsUtf8-from_is_utf8 _ c.white_front-count.ensures.front.utf8)
