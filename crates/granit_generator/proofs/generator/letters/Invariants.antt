use Rattle.std.proofs.Common.{◌≡◌}
use Rattle.granit_base.specs.Written.{string_chars}
use Rattle.granit_generator.specs.Generator as plain
use Rattle.granit_generator.proofs.generator.letters.Given as goal

abbrev pub invariant-loop : goal.invariant-loop
invariant-loop l = record {
  text : string_chars l.text ≡ (plain.letters l.counter l.initial.drawing).value;
  draws : l.drawing ≡ (plain.letters l.counter l.initial.drawing).draws;
}
