use Rattle.std.proofs.Common.{◌+◌, ◌-◌, length, take, refl, arith}
use Rattle.std.specs.Str.{chars, encode_utf8_all}
use Rattle.granit_base.proofs.CharLemmas.{chars_len}
use Rattle.granit_runs.specs.Unread.{left_of}
use Rattle.granit_input.proofs.QuoteTakes.{quoted_left, takes_quoted}
use Rattle.granit_runs.proofs.StringLemmas.{suffix_bytes, within_bytes}
use Rattle.granit_input.proofs.str_input.StrInputInput.take_quoted.Goals as goal

pub quoted_front-requires : goal.quoted_front-requires
quoted_front-requires c = c.requires (left_of c.args.self.now.source.now c.args.self.now.rest.now) refl

pub invariant_of-self-clause-suffix : goal.invariant_of-self-clause-suffix
invariant_of-self-clause-suffix c = suffix_bytes c.args.self.now.source.now c.args.self.now.rest.now
    c.in_ok-count.rest.now (encode_utf8_all (take (c.in_ok-count.count + 2) (chars c.args.self.now.rest.now)))
    c.args.self.now.within c.args.self.now.suffix c.in_ok-count.ensures.bytes

pub invariant_of-self-clause-within : goal.invariant_of-self-clause-within
invariant_of-self-clause-within c = within_bytes c.args.self.now.source.now c.args.self.now.rest.now
    c.in_ok-count.rest.now (encode_utf8_all (take (c.in_ok-count.count + 2) (chars c.args.self.now.rest.now)))
    c.args.self.now.within c.in_ok-count.ensures.bytes

pub invariant_of-self-clause-utf8 : goal.invariant_of-self-clause-utf8
invariant_of-self-clause-utf8 c = c.in_ok-count.ensures.utf8

pub overflow_add-result : goal.overflow_add-result
overflow_add-result c = omega (
  arith,
  quoted_left c.args.single c.args.in_flow c.args.self.now.rest.now c.in_ok-count.rest.now c.in_ok-count.count
      c.in_ok-count.ensures,
  chars_len c.args.self.now.rest.now,
  c.args.self.now.within,
  c.args.self.now.short,
)

pub returns-clause-takes : goal.returns-clause-takes
returns-clause-takes c = λ u is.
    let source = c.args.self.now.source.now in
    let rest = c.args.self.now.rest.now in
    takes_quoted c.args.single c.args.in_flow source rest c.in_ok-count.rest.now c.in_ok-count.count
    (length source - length rest + 1) u c.args.self.now.within refl c.in_ok-count.ensures is
