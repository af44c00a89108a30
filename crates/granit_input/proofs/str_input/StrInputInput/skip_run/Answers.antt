use Rattle.std.proofs.Common.{take, arith, rules}
use Rattle.std.specs.Str.{chars, encode_utf8_all}
use Rattle.granit_runs.specs.Runs.{run_test}
use Rattle.granit_runs.proofs.StringLemmas.{suffix_bytes, within_bytes, run_behind, run_left}
use Rattle.granit_input.proofs.str_input.StrInputInput.skip_run.Goals as goal

pub invariant_of-self-clause-suffix : goal.invariant_of-self-clause-suffix
invariant_of-self-clause-suffix c = suffix_bytes c.args.self.now.source.now c.args.self.now.rest.now
    c.past_run-ended.result.2.now (encode_utf8_all (take c.past_run-ended.result.1 (chars c.args.self.now.rest.now)))
    c.args.self.now.within c.args.self.now.suffix c.past_run-ended.ensures.bytes

pub invariant_of-self-clause-within : goal.invariant_of-self-clause-within
invariant_of-self-clause-within c = within_bytes c.args.self.now.source.now c.args.self.now.rest.now
    c.past_run-ended.result.2.now (encode_utf8_all (take c.past_run-ended.result.1 (chars c.args.self.now.rest.now)))
    c.args.self.now.within c.past_run-ended.ensures.bytes

pub returns-clause-skips : goal.returns-clause-skips
returns-clause-skips c = λ u is.
    let run = c.past_run-ended in
    run_behind (run_test c.args.run) c.args.self.now.source.now c.args.self.now.rest.now run.result.2.now c.args.limit
    run.result.1 run.result.0 u c.args.self.now.within
    run.ensures.front run.ensures.text run.ensures.bytes is

pub returns-clause-moves : goal.returns-clause-moves
returns-clause-moves c =
    let run = c.past_run-ended in (
      run_left (run_test c.args.run) c.args.self.now.rest.now run.result.2.now c.args.limit run.result.1 run.result.0
          run.ensures.front run.ensures.text,
      omega arith,
      search rules,
    )
