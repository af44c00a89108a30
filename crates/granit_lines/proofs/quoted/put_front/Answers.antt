use Rattle.std.proofs.Common.{◌≡◌, ◌≤◌, ◌+◌, ◌++◌, ℕ, List, true, length, take, subst}
use Rattle.std.specs.List.{All}
use Rattle.granit_lines.specs.Pieces.{is_plain}
use Rattle.granit_lines.proofs.QuotingLemmas.{front_put, plain_boundary}
use Rattle.granit_lines.proofs.quoted.put_front.Goals as goal

pub range_from-requires : goal.range_from-requires
range_from-requires c = λ some.
    let n = c.put_plain-count.result in
    plain_boundary c.args.text.now n c.utf8.text
    (subst (λ (bs : List ℕ). n ≤ length bs) c.as_bytes.ensures.value c.put_plain-count.ensures.within)
    (subst (λ (bs : List ℕ). All (λ b. is_plain b ≡ true) (take n bs)) c.as_bytes.ensures.value
    c.put_plain-count.ensures.plain)

pub returns-clause-put : goal.returns-clause-put
returns-clause-put c =
    let n = c.put_plain-count.result in
    let text = c.args.text.now in
    let is = c.as_bytes.ensures.value in
    front_put text n (take c.args.at c.args.room.now) (take (c.args.at + n) c.put_plain-count.new.room)
    c.range_from.result.now
    (subst (λ (bs : List ℕ). All (λ b. is_plain b ≡ true) (take n bs)) is c.put_plain-count.ensures.plain)
    (subst (λ (bs : List ℕ). take (c.args.at + n) c.put_plain-count.new.room
    ≡ take c.args.at c.args.room.now ++ take n bs) is c.put_plain-count.ensures.put)
    c.range_from.ensures.value
