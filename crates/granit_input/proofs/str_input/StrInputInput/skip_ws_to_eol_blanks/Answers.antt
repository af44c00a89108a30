use Rattle.std.proofs.Common.{◌≡◌, ℕ, List, length, take, sym, ap, ◌∙◌, arith, rules}
use Rattle.std.proofs.lemmas.List.{length-drop}
use Rattle.std.specs.Str.{chars, encode_utf8_all}
use Rattle.granit_base.specs.Place.{Unread}
use Rattle.granit_runs.specs.Runs.{starts}
use Rattle.granit_runs.specs.Unread.{past_count}
use Rattle.granit_runs.specs.White.{blanks_length, is_skipped, whitespace_found}
use Rattle.granit_runs.proofs.RunLemmas.{run_within}
use Rattle.granit_runs.proofs.StringLemmas.{suffix_bytes, within_bytes, past_bytes}
use Rattle.granit_input.proofs.str_input.StrInputInput.skip_ws_to_eol_blanks.Goals as goal

pub invariant_of-self-clause-suffix : goal.invariant_of-self-clause-suffix
invariant_of-self-clause-suffix c = suffix_bytes c.args.self.now.source.now c.args.self.now.rest.now
    c.past_white-count.result.2.now
    (encode_utf8_all (take c.past_white-count.result.0 (chars c.args.self.now.rest.now)))
    c.args.self.now.within c.args.self.now.suffix c.past_white-count.ensures.bytes

pub invariant_of-self-clause-within : goal.invariant_of-self-clause-within
invariant_of-self-clause-within c = within_bytes c.args.self.now.source.now c.args.self.now.rest.now
    c.past_white-count.result.2.now
    (encode_utf8_all (take c.past_white-count.result.0 (chars c.args.self.now.rest.now)))
    c.args.self.now.within c.past_white-count.ensures.bytes

pub returns-clause-skips : goal.returns-clause-skips
returns-clause-skips c = λ u is.
    let white = c.past_white-count in
    let here : chars c.args.self.now.rest.now ≡ u.text = sym (ap (λ (v : Unread). v.text) is) in (
      white.ensures.whole ∙ ap (blanks_length c.args.skip_tabs) here,
      white.ensures.found ∙ ap (λ (cs : List ℕ). whitespace_found (take white.result.0 cs)) here,
      ap (past_count white.result.0) is
          ∙ past_bytes c.args.self.now.source.now c.args.self.now.rest.now white.result.2.now white.result.0
          c.args.self.now.within white.ensures.text white.ensures.bytes,
    )

pub returns-clause-moves : goal.returns-clause-moves
returns-clause-moves c =
    let white = c.past_white-count in (
      omega (
        arith,
        ap (λ (cs : List ℕ). length cs) white.ensures.text
            ∙ length-drop white.result.0 (chars c.args.self.now.rest.now),
        white.ensures.whole,
        run_within (starts (is_skipped c.args.skip_tabs)) (chars c.args.self.now.rest.now),
      ),
      omega arith,
      search rules,
    )
