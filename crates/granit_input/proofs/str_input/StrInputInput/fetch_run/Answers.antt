use Rattle.std.proofs.Common.{◌≡◌, ℕ, List, ◌++◌, take, sym, ap, ◌∙◌, arith, rules}
use Rattle.std.specs.Str.{chars, encode_utf8_all}
use Rattle.std.proofs.lemmas.Result.{err_from_is_err_and}
use Rattle.granit_base.specs.Place.{Unread}
use Rattle.granit_base.specs.Written.{string_chars}
use Rattle.granit_runs.specs.Runs.{run_test}
use Rattle.granit_runs.specs.Unread.{left_of}
use Rattle.granit_input.proofs.AppendLemmas.{breaks_at_once}
use Rattle.granit_runs.proofs.StringLemmas.{suffix_bytes, within_bytes, run_behind, run_left}
use Rattle.granit_input.proofs.str_input.StrInputInput.fetch_run.Goals as goal

pub invariant_of-self-clause-suffix : goal.invariant_of-self-clause-suffix
invariant_of-self-clause-suffix c = suffix_bytes c.args.self.now.source.now c.args.self.now.rest.now
    c.past_run-ended.result.2.now (encode_utf8_all (take c.past_run-ended.result.1 (chars c.args.self.now.rest.now)))
    c.args.self.now.within c.args.self.now.suffix c.past_run-ended.ensures.bytes

pub invariant_of-self-clause-within : goal.invariant_of-self-clause-within
invariant_of-self-clause-within c = within_bytes c.args.self.now.source.now c.args.self.now.rest.now
    c.past_run-ended.result.2.now (encode_utf8_all (take c.past_run-ended.result.1 (chars c.args.self.now.rest.now)))
    c.args.self.now.within c.past_run-ended.ensures.bytes

pub returns-in_err-push_text-clause-fetches : goal.returns-in_err-push_text-clause-fetches
returns-in_err-push_text-clause-fetches c = λ u is.
    let err = err_from_is_err_and c.from_residual.result c.from_residual.ensures.1 in
    rw err.1 (breaks_at_once (run_test c.args.run) u
    (λ v. v ≡ left_of c.args.self.now.source.now c.args.self.now.rest.now) _ _ is
    (ap chars c.in_err-push_text.ensures.kept))

pub returns-clause-fetches : goal.returns-clause-fetches
returns-clause-fetches c = λ u is.
    let run = c.past_run-ended in
    let taken = run_behind (run_test c.args.run) c.args.self.now.source.now c.args.self.now.rest.now run.result.2.now
    c.args.limit run.result.1 run.result.0 u c.args.self.now.within
    run.ensures.front run.ensures.text run.ensures.bytes is in
    let here : chars c.args.self.now.rest.now ≡ u.text = sym (ap (λ (v : Unread). v.text) is) in
    let text = c.before-2.ensures run.result.1 run.ensures.bytes ∙ ap (take run.result.1) here in (
      taken.0,
      taken.1,
      c.in_ok-push_text.ensures.appended
          ∙ ap (λ (cs : List ℕ). string_chars c.args.out.now ++ cs) text,
    )

pub returns-clause-moves : goal.returns-clause-moves
returns-clause-moves c =
    let run = c.past_run-ended in (
      run_left (run_test c.args.run) c.args.self.now.rest.now run.result.2.now c.args.limit run.result.1 run.result.0
          run.ensures.front run.ensures.text,
      omega arith,
      search rules,
    )
