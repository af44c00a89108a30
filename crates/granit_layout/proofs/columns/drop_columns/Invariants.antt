use Rattle.std.proofs.Common.{◌≡◌, ◌<◌, ◌≤◌, ◌^◌, length}
use Rattle.std.specs.List.{All}
use Rattle.granit_machine.specs.Columns.{up_to_column}
use Rattle.granit_layout.specs.Views.{columns_view}
use Rattle.granit_layout.proofs.columns.drop_columns.Given as goal

abbrev pub invariant-columns : goal.invariant-columns
invariant-columns l = record {
  told : up_to_column l.column (columns_view l.wide l.columns.items)
      ≡ up_to_column l.column (columns_view l.fn.wide l.fn.columns.items);
  fits : l.wide ≤ length l.columns.items;
  small : All (λ n. n < 2 ^ 63) l.columns.items;
}

abbrev pub decreases-columns : goal.decreases-columns
decreases-columns l = length l.columns.items
