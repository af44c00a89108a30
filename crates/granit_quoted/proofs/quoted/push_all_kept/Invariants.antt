use Rattle.std.proofs.Common.{◌≡◌}
use Rattle.granit_quoted.specs.QuotedCode.{kept_chars}
use Rattle.granit_quoted.proofs.quoted.push_all_kept.Given as goal

abbrev pub invariant-loop-c : goal.invariant-loop-c
invariant-loop-c l = l.parts ≡ kept_chars l.initial.parts l.yielded
