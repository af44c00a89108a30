use Rattle.std.proofs.Common.{◌+◌}
use Rattle.std.specs.Simd.Lanes.{chunk}
use Rattle.granit_runs.specs.Runs.{is_quoted_ascii, is_quoted_word}
use Rattle.granit_runs.proofs.LaneLemmas.{quoted_sure, taken_each, taken_few, words_are}
use Rattle.granit_runs.proofs.lanes.quoted_words_at.Goals as goal

pub returns-clause-few : goal.returns-clause-few
returns-clause-few c =
    let single = c.args.single in
    let here = chunk c.args.at 16 c.args.bytes.now in
    let next = chunk (c.args.at + 1) 16 c.args.bytes.now in
    taken_few (is_quoted_word single) _ (quoted_sure single) c.args.bytes.now c.args.at _ _ c.requires
    (words_are (is_quoted_ascii single) (is_quoted_ascii single) here next c.quoted-words.ensures
    c.equal-spaces.ensures c.quoted-begins.ensures) c.front.ensures

pub returns-clause-each : goal.returns-clause-each
returns-clause-each c =
    let single = c.args.single in
    let here = chunk c.args.at 16 c.args.bytes.now in
    let next = chunk (c.args.at + 1) 16 c.args.bytes.now in
    taken_each (is_quoted_word single) _ (quoted_sure single) c.args.bytes.now c.args.at _ _ c.requires
    (words_are (is_quoted_ascii single) (is_quoted_ascii single) here next c.quoted-words.ensures
    c.equal-spaces.ensures c.quoted-begins.ensures) c.front.ensures
