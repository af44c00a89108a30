use Rattle.std.proofs.Common.{ℕ, ◌+◌, ◌==◌, ◌&&◌, not, slice_index}
use Rattle.std.specs.Simd.Lanes.{chunk}
use Rattle.granit_runs.specs.Runs.{is_plain_ascii, is_plain_word}
use Rattle.granit_runs.proofs.LaneLemmas.{both_are, pair_at, taken_each, taken_few, words_are, words_sure}
use Rattle.granit_runs.proofs.WordLemmas.{pair_shows}
use Rattle.granit_runs.proofs.lanes.plain_words_at.Goals as goal

pub returns-clause-few : goal.returns-clause-few
returns-clause-few c =
    let f = c.args.in_flow in
    let here = chunk c.args.at 16 c.args.bytes.now in
    let next = chunk (c.args.at + 1) 16 c.args.bytes.now in
    let begins = both_are (λ (n : ℕ). not (n == 0x23)) (is_plain_ascii f) next c.except-others.ensures
    c.plain-begins.ensures in
    taken_few (is_plain_word f) _ (words_sure f) c.args.bytes.now c.args.at _ _ c.requires
    (words_are (is_plain_ascii f) (λ (n : ℕ). not (n == 0x23) && is_plain_ascii f n) here next c.plain-words.ensures
    c.equal-spaces.ensures begins) c.front.ensures

pub returns-clause-each : goal.returns-clause-each
returns-clause-each c =
    let f = c.args.in_flow in
    let here = chunk c.args.at 16 c.args.bytes.now in
    let next = chunk (c.args.at + 1) 16 c.args.bytes.now in
    let begins = both_are (λ (n : ℕ). not (n == 0x23)) (is_plain_ascii f) next c.except-others.ensures
    c.plain-begins.ensures in
    taken_each (is_plain_word f) _ (words_sure f) c.args.bytes.now c.args.at _ _ c.requires
    (words_are (is_plain_ascii f) (λ (n : ℕ). not (n == 0x23) && is_plain_ascii f n) here next c.plain-words.ensures
    c.equal-spaces.ensures begins) c.front.ensures

pub returns-clause-shown : goal.returns-clause-shown
returns-clause-shown c = λ k few.
    let f = c.args.in_flow in
    let bytes = c.args.bytes.now in
    let here = chunk c.args.at 16 bytes in
    let next = chunk (c.args.at + 1) 16 bytes in
    let begins = both_are (λ (n : ℕ). not (n == 0x23)) (is_plain_ascii f) next c.except-others.ensures
    c.plain-begins.ensures in
    pair_shows f (slice_index bytes (c.args.at + k)) (slice_index bytes (c.args.at + k + 1))
    (pair_at (is_plain_word f) _ (words_sure f) bytes c.args.at _ _ c.requires
    (words_are (is_plain_ascii f) (λ (n : ℕ). not (n == 0x23) && is_plain_ascii f n) here next c.plain-words.ensures
    c.equal-spaces.ensures begins) c.front.ensures k few)
