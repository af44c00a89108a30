use Rattle.std.proofs.Common.{◌≡◌, ◌+◌, ◌-◌, true, length, take, arith, rules}
use Rattle.std.specs.Str.{chars, encode_utf8_all}
use Rattle.granit_runs.specs.Words.{stops_words}
use Rattle.granit_runs.proofs.StringLemmas.{suffix_bytes, within_bytes}
use Rattle.granit_input.proofs.StringWords.{both_bytes, feed_no_word, lends_words, line_ended, stop_no_word, stopped}
use Rattle.granit_input.proofs.StringWords.{words_left}
use Rattle.granit_input.proofs.str_input.StrInputInput.take_plain.Goals as goal

pub invariant_of-self-clause-suffix : goal.invariant_of-self-clause-suffix
invariant_of-self-clause-suffix c = suffix_bytes c.args.self.now.source.now c.args.self.now.rest.now
    c.in_ok-behind.behind.now (encode_utf8_all (take c.in_ok-behind.field-0-0 (chars c.args.self.now.rest.now)))
    c.args.self.now.within c.args.self.now.suffix c.in_ok-behind.ensures.bytes

pub invariant_of-self-clause-within : goal.invariant_of-self-clause-within
invariant_of-self-clause-within c = within_bytes c.args.self.now.source.now c.args.self.now.rest.now
    c.in_ok-behind.behind.now (encode_utf8_all (take c.in_ok-behind.field-0-0 (chars c.args.self.now.rest.now)))
    c.args.self.now.within c.in_ok-behind.ensures.bytes

pub invariant_of-self-clause-utf8 : goal.invariant_of-self-clause-utf8
invariant_of-self-clause-utf8 c = c.in_ok-behind.ensures.utf8

pub returns-then-stops_words-clause-takes : goal.returns-then-stops_words-clause-takes
returns-then-stops_words-clause-takes c = λ u is.
    let f = c.args.in_flow in
    let source = c.args.self.now.source.now in
    let rest = c.args.self.now.rest.now in
    let behind = c.in_ok-behind.behind.now in
    let n = c.in_ok-behind.field-0-0 in
    let fits = c.args.self.now.within in
    let w = c.in_ok-behind.ensures in
    let stops : stops_words f (chars behind) ≡ true = c.stops_words.ensures c.if-stops_words.true in (
      lends_words f source rest behind n fits w u (stop_no_word f (chars behind) stops) is,
      stopped f source rest behind n fits w u stops is,
    )

pub returns-then-stops_words-clause-moves : goal.returns-then-stops_words-clause-moves
returns-then-stops_words-clause-moves c = (
  words_left c.args.in_flow c.args.self.now.source.now c.args.self.now.rest.now c.in_ok-behind.behind.now
      c.in_ok-behind.field-0-0 c.args.self.now.within c.in_ok-behind.ensures,
  omega arith,
  search rules,
)

pub invariant_of-self-2-clause-suffix : goal.invariant_of-self-2-clause-suffix
invariant_of-self-2-clause-suffix c =
    let rest = c.args.self.now.rest.now in
    let n = c.in_ok-behind.field-0-0 in
    suffix_bytes c.args.self.now.source.now rest c.in_ok-spaces.after.now
    (encode_utf8_all (take (n + (1 + c.in_ok-spaces.spaces)) (chars rest)))
    c.args.self.now.within c.args.self.now.suffix
    (both_bytes c.args.in_flow c.args.self.now.source.now rest c.in_ok-behind.behind.now n c.args.self.now.within
    c.in_ok-behind.ensures c.args.column c.in_ok-spaces.spaces c.in_ok-spaces.after.now
    c.in_ok-spaces.ensures)

pub invariant_of-self-2-clause-within : goal.invariant_of-self-2-clause-within
invariant_of-self-2-clause-within c =
    let rest = c.args.self.now.rest.now in
    let n = c.in_ok-behind.field-0-0 in
    within_bytes c.args.self.now.source.now rest c.in_ok-spaces.after.now
    (encode_utf8_all (take (n + (1 + c.in_ok-spaces.spaces)) (chars rest)))
    c.args.self.now.within
    (both_bytes c.args.in_flow c.args.self.now.source.now rest c.in_ok-behind.behind.now n c.args.self.now.within
    c.in_ok-behind.ensures c.args.column c.in_ok-spaces.spaces c.in_ok-spaces.after.now
    c.in_ok-spaces.ensures)

pub invariant_of-self-2-clause-utf8 : goal.invariant_of-self-2-clause-utf8
invariant_of-self-2-clause-utf8 c = c.in_ok-spaces.ensures.utf8

pub returns-clause-takes : goal.returns-clause-takes
returns-clause-takes c = λ u is.
    let f = c.args.in_flow in
    let source = c.args.self.now.source.now in
    let rest = c.args.self.now.rest.now in
    let behind = c.in_ok-behind.behind.now in
    let n = c.in_ok-behind.field-0-0 in
    let fits = c.args.self.now.within in
    let w = c.in_ok-behind.ensures in
    let p = c.in_ok-spaces.ensures in
    let ended = line_ended f source rest behind n fits w c.args.column c.in_ok-spaces.spaces
    c.in_ok-spaces.after.now p u is in (
      lends_words f source rest behind n fits w u (feed_no_word f (chars behind) p.ends.feed) is,
      ended,
    )
