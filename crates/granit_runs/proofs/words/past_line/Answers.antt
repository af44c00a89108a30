use Rattle.std.proofs.Common.{◌≡◌, ◌∷◌, ◌++◌, List, ℕ, subst}
use Rattle.std.specs.Char.{encode_utf8}
use Rattle.std.specs.Str.{chars}
use Rattle.granit_runs.proofs.WordLemmas.{line_passed}
use Rattle.granit_runs.proofs.words.past_line.Goals as goal

pub returns : goal.returns
returns c =
    let s = c.args.s.now in
    let white = c.past_white-spaces in
    let feed = (c.begins_with_feed.ensures c.if-not-begins_with_feed.false).1 in
    let b = c.behind_byte.result.now in
    line_passed c.args.in_flow c.args.column white.result.0 s b white.result.2.now
    (subst (λ (n : ℕ). chars s ≡ n ∷ chars b) feed c.behind_byte.ensures.text)
    (subst (λ (n : ℕ). s ≡ encode_utf8 n ++ b) feed c.behind_byte.ensures.bytes)
    white.ensures.whole white.ensures.text white.ensures.bytes white.ensures.utf8
    (c.shows.ensures c.if-not-shows.false) (c.ends_below.ensures c.if-not-ends_below.false)
