use Rattle.std.proofs.Common.{◌≡◌, ◌-◌, true, length, map}
use Rattle.granit_error.specs.OptionsView.{options_of}
use Rattle.granit_machine.specs.PossibleKeys.{fresh_bracket}
use Rattle.granit_layout.specs.Rising.{Rising}
use Rattle.granit_layout.proofs.brackets.refresh_outermost.Given as goal

abbrev pub invariant-brackets : goal.invariant-brackets
invariant-brackets l = record {
  told : map (fresh_bracket (options_of l.options) l.mark) l.brackets.items
      ≡ map (fresh_bracket (options_of l.options) l.mark) l.fn.brackets.items;
  rising : Rising l.order l.brackets.items;
  rises : l.order.rises ≡ true;
}

abbrev pub decreases-brackets : goal.decreases-brackets
decreases-brackets l = length l.brackets.items - l.order.first
