use Rattle.std.proofs.lemmas.Str.{is_utf8-from_IsUtf8}
use Rattle.granit_runs.specs.Runs.{run_test}
use Rattle.granit_runs.proofs.AsciiLemmas.{ascii_none}
use Rattle.granit_runs.proofs.WordLemmas.{shows_none}
use Rattle.granit_runs.proofs.cuts.ascii_count.Goals as goal

pub ascii_front-requires-clause-counted : goal.ascii_front-requires-clause-counted
ascii_front-requires-clause-counted c =
    ascii_none (run_test c.args.run) c.args.s.now (is_utf8-from_IsUtf8 c.args.s.now c.utf8.s)

pub ascii_front-requires-clause-shown : goal.ascii_front-requires-clause-shown
ascii_front-requires-clause-shown c = shows_none c.args.run c.args.s.now
