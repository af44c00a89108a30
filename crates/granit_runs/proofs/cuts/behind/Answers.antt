use Rattle.std.proofs.Common.{arith}
use Rattle.std.proofs.lemmas.Str.{IsUtf8-past_char}
use Rattle.granit_runs.proofs.StringLemmas.{behind_end, behind_more}
use Rattle.granit_runs.proofs.cuts.behind.Goals as goal

pub returns-in-None-clause-bytes : goal.returns-in-None-clause-bytes
returns-in-None-clause-bytes c = behind_end c.args.s.now c.taken.rest.now c.taken.taken c.args.count
    c.taken.invariant.within c.taken.invariant.text c.in-None.ensures.none c.taken.invariant.bytes

pub taken-preserved : goal.taken-preserved
taken-preserved c =
    let more = behind_more c.args.s.now c.taken.rest.now c.in-Some.after.now c.taken.taken c.in-Some.field-0-0
    c.taken.invariant.text c.in-Some.ensures.some c.in-Some.ensures.bytes c.taken.invariant.bytes in
    record {
      utf8 = IsUtf8-past_char c.taken.rest.now c.in-Some.after.now c.in-Some.field-0-0 c.taken.invariant.utf8
          c.in-Some.ensures.bytes;
      within = omega arith;
      text = more.0;
      bytes = more.1;
    }
