use Rattle.std.proofs.Common.{◌+◌, ◌/◌, ◌%◌, ℕ, List, [], ◌∷◌, ◌++◌, take, refl, sym, ap, ◌∙◌, append_assoc, arith}
use Rattle.granit_lines.proofs.NumberLemmas.{decimal_near}
use Rattle.granit_lines.proofs.RoomLemmas.{piece_front}
use Rattle.granit_lines.proofs.numbers.put_near.Goals as goal

pub returns-clause-put : goal.returns-clause-put
returns-clause-put c =
    let leading = c.args.leading.now in
    let room = c.args.room.now in
    let at = c.args.at in
    let pair = c.args.pair in
    let last = (48 + pair / 10) ∷ (48 + pair % 10) ∷ [] in
    let near = decimal_near (leading.base + pair) leading.base pair leading.count leading.digits
    (omega (arith, leading.large)) (omega (arith, leading.near, c.requires.near)) leading.even refl c.requires.near
    leading.told in
    c.put_pair.ensures.put
    ∙ ap (λ (xs : List ℕ). xs ++ last)
    (piece_front c.put_eight.new.room room leading.digits at (at + 8) leading.count (omega (arith, c.requires.room))
    (omega (arith, leading.few)) c.put_eight.ensures.put)
    ∙ append_assoc (take at room) (take leading.count leading.digits) last
    ∙ ap (λ (xs : List ℕ). take at room ++ xs) (sym near)
