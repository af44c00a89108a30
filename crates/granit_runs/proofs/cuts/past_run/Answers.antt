use Rattle.std.proofs.Common.{◌≡◌, ℕ, List, ◌+◌, true, false, drop, sym, ap, ◌∙◌, subst, refl, arith}
use Rattle.std.specs.Str.{chars}
use Rattle.std.proofs.lemmas.List.{drop-drop}
use Rattle.std.proofs.lemmas.Str.{IsUtf8-from_is_utf8, is_utf8-from_IsUtf8}
use Rattle.granit_runs.specs.Chunks.{FrontOf}
use Rattle.granit_runs.specs.Cuts.{SpellsFront}
use Rattle.granit_runs.specs.Runs.{run_test}
use Rattle.granit_runs.proofs.RunLemmas.{IsFront, run_nul, front_none, front_more, front_on, front_ended, front_cut}
use Rattle.granit_runs.proofs.AsciiLemmas.{spells_on}
use Rattle.granit_runs.proofs.StringLemmas.{behind_more}
use Rattle.granit_runs.proofs.cuts.past_run.Goals as goal

pub run-init : goal.run-init
run-init c = record {
  utf8 = c.utf8.s;
  limit = omega arith;
  front = front_none (run_test c.args.run)
      (chars c.args.s.now);
  text = refl;
  bytes = refl;
}

pub run-preserved : goal.run-preserved
run-preserved c =
    let test = run_test c.args.run in
    let here = sym c.run.invariant.text ∙ c.in-Some.ensures.some in
    let one = behind_more c.args.s.now c.run.rest.now c.in-Some.after.now c.run.count c.in-Some.c c.run.invariant.text
    c.in-Some.ensures.some c.in-Some.ensures.bytes c.run.invariant.bytes in
    let go : test (drop c.run.count (chars c.args.s.now)) ≡ true = ap test here ∙ sym c.takes.ensures
    ∙ c.if-not-takes.false in
    let front = front_more test (chars c.args.s.now) c.run.count (run_nul c.args.run) c.run.invariant.front go in
    let more = c.past_ascii-more.result.0 in
    let on : FrontOf test (drop (c.run.count + 1) (chars c.args.s.now)) more =
    subst (λ (t : List ℕ). FrontOf test t more) one.0 c.past_ascii-more.ensures.front in
    let sum : c.run.count + 1 + more ≡ c.run.count + (1 + more) = omega arith in
    record {
      utf8 = IsUtf8-from_is_utf8 c.past_ascii-more.result.1.now c.past_ascii-more.ensures.utf8;
      limit = omega (arith, c.past_ascii-more.ensures.limit);
      front = subst (IsFront test (chars c.args.s.now)) sum
          (front_on test (chars c.args.s.now) (c.run.count + 1) more front on);
      text = c.past_ascii-more.ensures.text ∙ ap (drop more) one.0
          ∙ drop-drop more (c.run.count + 1) (chars c.args.s.now)
          ∙ ap (λ (n : ℕ). drop n (chars c.args.s.now)) sum;
      bytes = subst (λ (n : ℕ). SpellsFront c.args.s.now n c.past_ascii-more.result.1.now) sum
          (spells_on c.args.s.now c.in-Some.after.now c.past_ascii-more.result.1.now (c.run.count + 1) more one.0 one.1
          c.past_ascii-more.ensures.bytes);
    }

pub returns-in_default-clause-front : goal.returns-in_default-clause-front
returns-in_default-clause-front c =
    let here = sym c.run.invariant.text ∙ c.in_default.ensures.none in
    let stop : run_test c.args.run (drop c.run.count (chars c.args.s.now)) ≡ false = ap (run_test c.args.run) here
    ∙ run_nul c.args.run in
    front_ended (run_test c.args.run) (chars c.args.s.now) c.args.limit c.run.count c.run.invariant.front stop

pub returns-in_default-clause-utf8 : goal.returns-in_default-clause-utf8
returns-in_default-clause-utf8 c = is_utf8-from_IsUtf8 c.run.rest.now c.run.invariant.utf8

pub returns-then-not-takes-clause-front : goal.returns-then-not-takes-clause-front
returns-then-not-takes-clause-front c =
    let here = sym c.run.invariant.text ∙ c.in-Some.ensures.some in
    let stop : run_test c.args.run (drop c.run.count (chars c.args.s.now)) ≡ false = ap (run_test c.args.run) here
    ∙ sym c.takes.ensures ∙ c.if-not-takes.true in
    front_ended (run_test c.args.run) (chars c.args.s.now) c.args.limit c.run.count c.run.invariant.front stop

pub returns-then-not-takes-clause-utf8 : goal.returns-then-not-takes-clause-utf8
returns-then-not-takes-clause-utf8 c = is_utf8-from_IsUtf8 c.run.rest.now c.run.invariant.utf8

pub returns-clause-front : goal.returns-clause-front
returns-clause-front c = front_cut (run_test c.args.run) (chars c.args.s.now) c.args.limit c.run.count
    c.run.invariant.front (omega (arith, c.run-test.false))

pub returns-clause-utf8 : goal.returns-clause-utf8
returns-clause-utf8 c = is_utf8-from_IsUtf8 c.run.rest.now c.run.invariant.utf8
