use Rattle.std.proofs.Common.{◌≡◌, ℕ, List, length, take, sym, ap, subst, ◌∙◌, arith, rules}
use Rattle.std.proofs.lemmas.List.{length-drop}
use Rattle.std.specs.Str.{chars, encode_utf8_all}
use Rattle.granit_base.specs.Place.{Unread, first}
use Rattle.granit_runs.specs.Lines.{IsLines, is_line_gap, is_visible}
use Rattle.granit_runs.specs.Runs.{starts}
use Rattle.granit_runs.specs.Unread.{past_count}
use Rattle.granit_runs.proofs.RunLemmas.{run_within}
use Rattle.granit_runs.proofs.StringLemmas.{suffix_bytes, within_bytes, past_bytes}
use Rattle.granit_input.proofs.str_input.StrInputInput.take_lines.Goals as goal

pub invariant_of-self-clause-suffix : goal.invariant_of-self-clause-suffix
invariant_of-self-clause-suffix c = suffix_bytes c.args.self.now.source.now c.args.self.now.rest.now
    c.behind_lines-self.result.now (encode_utf8_all (take c.in-Some.count (chars c.args.self.now.rest.now)))
    c.args.self.now.within c.args.self.now.suffix c.behind_lines-self.ensures.bytes

pub invariant_of-self-clause-within : goal.invariant_of-self-clause-within
invariant_of-self-clause-within c = within_bytes c.args.self.now.source.now c.args.self.now.rest.now
    c.behind_lines-self.result.now (encode_utf8_all (take c.in-Some.count (chars c.args.self.now.rest.now)))
    c.args.self.now.within c.behind_lines-self.ensures.bytes

pub returns-in-Some-clause-takes : goal.returns-in-Some-clause-takes
returns-in-Some-clause-takes c = λ u is.
    let count = c.in-Some.count in
    let here : chars c.args.self.now.rest.now ≡ u.text = sym (ap (λ (v : Unread). v.text) is) in (
      subst (λ (cs : List ℕ). IsLines cs count c.in-Some.lines c.in-Some.spaces) here c.in-Some.ensures.lines,
      ap (past_count count) is
          ∙ past_bytes c.args.self.now.source.now c.args.self.now.rest.now c.behind_lines-self.result.now count
          c.args.self.now.within c.behind_lines-self.ensures.text c.behind_lines-self.ensures.bytes,
    )

pub returns-in-Some-clause-clear : goal.returns-in-Some-clause-clear
returns-in-Some-clause-clear c = λ some u is.
    ap (λ (v : Unread). is_visible (first v.text)) is
    ∙ ap (λ (bs : List ℕ). is_visible (first (chars bs))) c.behind_lines-self.ensures.value
    ∙ c.in-Some.ensures.clear

pub returns-in-Some-clause-moves : goal.returns-in-Some-clause-moves
returns-in-Some-clause-moves c = (
  omega (
    arith,
    ap (λ (cs : List ℕ). length cs) c.behind_lines-self.ensures.text
        ∙ length-drop c.in-Some.count (chars c.args.self.now.rest.now),
    c.in-Some.ensures.lines.whole,
    run_within (starts is_line_gap) (chars c.args.self.now.rest.now),
  ),
  omega arith,
  search rules,
)
