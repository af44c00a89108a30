use Rattle.std.proofs.Common.{◌≤◌, ◌-◌}
use Rattle.granit_runs.specs.Cuts.{IsAsciiFront}
use Rattle.granit_runs.specs.Runs.{run_test}
use Rattle.granit_runs.specs.Words.{ShowsFront}
use Rattle.granit_runs.proofs.cuts.ascii_front.Given as goal

abbrev pub invariant-front : goal.invariant-front
invariant-front l = record {
  front : IsAsciiFront (run_test l.run) l.s l.count;
  limit : l.count ≤ l.end;
  shown : ShowsFront l.run l.s l.count;
}

abbrev pub decreases-front : goal.decreases-front
decreases-front l = l.end - l.count
