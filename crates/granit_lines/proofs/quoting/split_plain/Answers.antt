use Rattle.std.proofs.Common.{◌≡◌, ◌≤◌, ℕ, List, true, length, take, subst}
use Rattle.std.specs.List.{All}
use Rattle.granit_lines.specs.Pieces.{is_plain}
use Rattle.granit_lines.proofs.QuotingLemmas.{plain_boundary, quoted_front, fewer_behind}
use Rattle.granit_lines.proofs.quoting.split_plain.Goals as goal

pub range-requires-clause-end_boundary : goal.range-requires-clause-end_boundary
range-requires-clause-end_boundary c =
    let n = c.plain_len-count.result in
    plain_boundary c.args.text.now n c.utf8.text
    (subst (λ (bs : List ℕ). n ≤ length bs) c.as_bytes.ensures.value c.plain_len-count.ensures.within)
    (subst (λ (bs : List ℕ). All (λ b. is_plain b ≡ true) (take n bs)) c.as_bytes.ensures.value
    c.plain_len-count.ensures.plain)

pub range_from-requires : goal.range_from-requires
range_from-requires c = λ some.
    let n = c.plain_len-count.result in
    plain_boundary c.args.text.now n c.utf8.text
    (subst (λ (bs : List ℕ). n ≤ length bs) c.as_bytes.ensures.value c.plain_len-count.ensures.within)
    (subst (λ (bs : List ℕ). All (λ b. is_plain b ≡ true) (take n bs)) c.as_bytes.ensures.value
    c.plain_len-count.ensures.plain)

pub returns-clause-told : goal.returns-clause-told
returns-clause-told c =
    let n = c.plain_len-count.result in
    quoted_front c.args.text.now n c.range.result.now c.range_from.result.now
    (subst (λ (bs : List ℕ). All (λ b. is_plain b ≡ true) (take n bs)) c.as_bytes.ensures.value
    c.plain_len-count.ensures.plain) c.range.ensures.value c.range_from.ensures.value

pub returns-clause-shorter : goal.returns-clause-shorter
returns-clause-shorter c =
    let n = c.plain_len-count.result in
    fewer_behind c.args.text.now n c.range_from.result.now
    (subst (λ (bs : List ℕ). All (λ b. is_plain b ≡ true) (take n bs)) c.as_bytes.ensures.value
    c.plain_len-count.ensures.plain) c.range_from.ensures.value
