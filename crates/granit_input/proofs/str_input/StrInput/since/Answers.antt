use Rattle.std.proofs.Common.{length, ◌-◌, arith}
use Rattle.std.proofs.lemmas.Str.{IsCharBoundary-from_drop, IsUtf8-from_is_utf8}
use Rattle.granit_runs.specs.Cuts.{last_bytes}
use Rattle.granit_input.proofs.str_input.StrInput.since.Goals as goal

pub range_from-requires : goal.range_from-requires
range_from-requires c = λ _.
    let source = c.args.self.now.source.now in
    IsCharBoundary-from_drop source (length source - c.args.left) (omega arith)
    (IsUtf8-from_is_utf8 (last_bytes c.args.left source) c.requires.utf8)
