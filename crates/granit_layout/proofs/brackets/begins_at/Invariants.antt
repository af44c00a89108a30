use Rattle.std.proofs.Common.{◌≡◌, ℕ, ◌<◌, false, length, get_or}
use Rattle.granit_lexemes.specs.declared.layout.OpenBracket.{OpenBracket}
use Rattle.granit_machine.specs.PossibleKeys.{is_of}
use Rattle.granit_layout.proofs.brackets.begins_at.Given as goal

abbrev pub invariant-brackets : goal.invariant-brackets
invariant-brackets l = (j : ℕ) (d : OpenBracket) → j < l.i → j < length l.brackets
    → is_of l.number (get_or l.brackets j d).key ≡ false
