use Rattle.std.proofs.Common.{rules, ◌≡◌, ◌∷◌, [], ◌++◌, ◌∙◌, arith}
use Rattle.std.proofs.lemmas.Grind.{common_steps}
use Rattle.granit_layout.proofs.ColumnLemmas.{popped_columns}
use Rattle.granit_layout.proofs.columns.drop_columns.Goals as goal

pub columns-preserved : goal.columns-preserved
columns-preserved c =
    let more : c.columns.columns.items ≡ c.pop.new.self.items ++ c.in-Some.open.now ∷ [] = search rules in
    record {
      told = popped_columns c.columns.wide c.min.result c.args.column c.in-Some.open.now c.columns.columns.items
          c.pop.new.self.items more c.if-open-column.false (search rules) ∙ c.columns.invariant.told;
      fits = search rules;
      small = grind (arith, common_steps, c.columns.invariant.small, c.pop.ensures.rest);
    }
