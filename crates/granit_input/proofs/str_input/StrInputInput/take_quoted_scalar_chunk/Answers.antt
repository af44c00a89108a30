use Rattle.std.proofs.Common.{◌≡◌, ◌∙◌, refl, sym, ap, length, rules, arith}
use Rattle.std.proofs.lemmas.List.{length-drop}
use Rattle.std.specs.Str.{chars}
use Rattle.granit_runs.specs.Runs.{starts, is_quoted_char}
use Rattle.granit_runs.proofs.RunLemmas.{run_within}
use Rattle.granit_runs.proofs.StringLemmas.{since_text, taken_length, text_behind}
use Rattle.granit_input.proofs.str_input.StrInputInput.take_quoted_scalar_chunk.Goals as goal

pub returns : goal.returns
returns c =
    let source = c.args.self.now.source.now in
    let rest = c.args.self.now.rest.now in
    let run = c.pass_run-count in
    let after = run.new.self.rest.now in
    let text = c.since.result.now in
    let test = starts (is_quoted_char c.args.single) in
    let taken = since_text source run.new.self.source.now rest after text run.result run.ensures.kept
    c.args.self.now.suffix run.ensures.bytes c.since.ensures in
    let long : length (chars text) ≡ run.result = taken_length test rest text run.result run.ensures.whole taken in (
      (
        refl,
        λ _. tt,
        (
          λ u is. text_behind test source run.new.self.source.now rest after text run.result u run.ensures.kept
              c.args.self.now.within run.ensures.whole run.ensures.text run.ensures.bytes taken is,
          omega (
            arith,
            long,
            ap length run.ensures.text
                ∙ length-drop run.result (chars rest),
            run.ensures.whole,
            run_within test (chars rest),
          ),
          omega arith,
          search rules,
        ),
      ),
      record { rests = tt; count = sym long; whole = long ∙ run.ensures.whole },
    )
