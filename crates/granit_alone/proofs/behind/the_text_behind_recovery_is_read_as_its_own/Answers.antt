use Rattle.granit_alone.proofs.DropGives.{dropping_gives}
use Rattle.granit_alone.proofs.FaultLaws.{recovery_gives}
use Rattle.granit_alone.proofs.behind.the_text_behind_recovery_is_read_as_its_own.Goals as goal

pub returns-clause-given : goal.returns-clause-given
returns-clause-given c = recovery_gives

pub returns-clause-dropping : goal.returns-clause-dropping
returns-clause-dropping c =
    λ o stops looked follows c b d e f n es reached at goes between failed counts is gives.
    dropping_gives o
    (record {
      stops = stops;
      looked = looked;
      follows = follows;
      asked = c;
      seen = b;
      behind = d;
      fault = f;
      stopped = n;
      at = at;
      goes = goes;
      between = between;
      failed = failed;
      is = is;
    }) e es reached counts gives
