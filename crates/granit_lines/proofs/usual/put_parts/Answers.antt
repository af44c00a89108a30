use Rattle.std.proofs.Common.{◌+◌, ◌++◌, ℕ, List, take, ap, ◌∙◌, append_assoc, arith}
use Rattle.granit_lines.proofs.RoomLemmas.{piece_front}
use Rattle.granit_lines.proofs.usual.put_parts.Goals as goal

pub returns-clause-put : goal.returns-clause-put
returns-clause-put c =
    let old = take c.args.at c.args.room.now in
    c.put_eight-2.ensures.put
    ∙ ap (λ (xs : List ℕ). xs ++ c.args.back)
    (piece_front c.put_eight.new.room c.args.room.now c.args.front c.args.at (c.args.at + 8) c.args.from
    (omega (arith, c.requires.room)) (omega (arith, c.requires.from)) c.put_eight.ensures.put)
    ∙ append_assoc old (take c.args.from c.args.front) c.args.back
