use Rattle.std.proofs.Common.{◌≡◌, ◌++◌, length, map, take, drop}
use Rattle.granit_error.specs.OptionsView.{options_of}
use Rattle.granit_machine.specs.PossibleKeys.{fresh_bracket}
use Rattle.granit_layout.proofs.brackets.refresh_all.Given as goal

abbrev pub invariant-brackets : goal.invariant-brackets
invariant-brackets l = record {
  told : l.brackets.items
      ≡ map (fresh_bracket (options_of l.options) l.mark) (take l.i l.fn.brackets.items)
      ++ drop l.i l.fn.brackets.items;
  fits : length l.brackets.items ≡ l.i-end;
  same : length l.fn.brackets.items ≡ l.i-end;
}
