use Rattle.std.proofs.Common.{take, ◌-◌, ◌^◌, arith}
use Rattle.std.specs.Str.{chars, encode_utf8_all}
use Rattle.granit_base.proofs.CharLemmas.{chars_len}
use Rattle.granit_runs.specs.Runs.{run_test}
use Rattle.granit_runs.proofs.RunLemmas.{front_all, run_within}
use Rattle.granit_runs.proofs.StringLemmas.{suffix_bytes, within_bytes}
use Rattle.granit_input.proofs.str_input.StrInput.pass_run.Goals as goal

pub invariant_of-self-clause-suffix : goal.invariant_of-self-clause-suffix
invariant_of-self-clause-suffix c = suffix_bytes c.args.self.now.source.now c.args.self.now.rest.now
    c.past_run-count.result.2.now (encode_utf8_all (take c.past_run-count.result.1 (chars c.args.self.now.rest.now)))
    c.args.self.now.within c.args.self.now.suffix c.past_run-count.ensures.bytes

pub invariant_of-self-clause-within : goal.invariant_of-self-clause-within
invariant_of-self-clause-within c = within_bytes c.args.self.now.source.now c.args.self.now.rest.now
    c.past_run-count.result.2.now (encode_utf8_all (take c.past_run-count.result.1 (chars c.args.self.now.rest.now)))
    c.args.self.now.within c.past_run-count.ensures.bytes

pub returns-clause-whole : goal.returns-clause-whole
returns-clause-whole c =
    let run = c.past_run-count in
    let rest = c.args.self.now.rest.now in
    front_all (run_test c.args.run) (chars rest) (2 ^ 64 - 1) run.result.0 run.result.1 run.ensures.front
    (omega (
      arith,
      run.ensures.front.fits,
      run_within (run_test c.args.run) (chars rest),
      chars_len rest,
      c.args.self.now.within,
      c.args.self.now.short,
    ))
