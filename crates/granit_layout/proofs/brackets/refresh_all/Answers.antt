use Rattle.std.proofs.Common.{rules, ◌<◌, Option, length, set, ap, ◌∙◌, arith}
use Rattle.std.proofs.lemmas.List.Edits.{map_over_more}
use Rattle.granit_error.specs.OptionsView.{options_of}
use Rattle.granit_lexemes.specs.declared.layout.PossibleKey.{PossibleKey}
use Rattle.granit_machine.specs.PossibleKeys.{fresh_bracket}
use Rattle.granit_layout.proofs.brackets.refresh_all.Goals as goal

pub brackets-preserved : goal.brackets-preserved
brackets-preserved c =
    let open_brackets = c.brackets.brackets.items in
    let there = c.index_mut.result.now in
    let fresh = fresh_bracket (options_of c.args.options.now) c.args.mark.now in
    let within : c.brackets.i < length open_brackets = omega arith in
    record {
      told = ap (λ (k : Option PossibleKey). set open_brackets c.brackets.i (record there { key = k }))
          c.refresh_one.ensures
          ∙ map_over_more fresh c.args.brackets.now.items open_brackets c.brackets.i there (omega arith)
          c.brackets.invariant.told c.index_mut.ensures.value;
      fits = search rules;
      same = search rules;
    }
