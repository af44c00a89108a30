use Rattle.std.proofs.Common.{ℕ, List, ◌++◌, take, replicate, decimal, refl, ap, ◌∙◌, arith}
use Rattle.granit_lines.proofs.NumberLemmas.{at_most_twenty, written_digits}
use Rattle.granit_lines.proofs.numbers.put_any.Goals as goal

pub write_digits-start-requires : goal.write_digits-start-requires
write_digits-start-requires c = (at_most_twenty c.args.n (omega arith), omega arith)

pub returns-clause-put : goal.returns-clause-put
returns-clause-put c =
    c.put_bytes.ensures.put
    ∙ ap (λ (xs : List ℕ). take c.args.at c.args.room.now ++ xs)
    (written_digits _ (decimal c.args.n) (replicate 20 0) 20 c.write_digits-start.result
    c.write_digits-start.ensures.written refl c.write_digits-start.ensures.start)
