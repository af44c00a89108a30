use Rattle.std.proofs.Common.{sym, ap, ◌∙◌}
use Rattle.std.specs.Char.{encode_utf8}
use Rattle.std.specs.Str.{chars}
use Rattle.granit_base.specs.Classes.{is_breakz}
use Rattle.granit_runs.proofs.StringLemmas.{suffix_bytes, within_bytes, utf8_behind, read_left, first_left, end_breakz}
use Rattle.granit_input.proofs.str_input.StrInputInput.raw_read_non_breakz_ch.Goals as goal

pub invariant_of-self-clause-suffix : goal.invariant_of-self-clause-suffix
invariant_of-self-clause-suffix c = suffix_bytes c.args.self.now.source.now c.args.self.now.rest.now c.in-Some.rest.now
    (encode_utf8 c.in-Some.c) c.args.self.now.within c.args.self.now.suffix c.in-Some.ensures.bytes

pub invariant_of-self-clause-within : goal.invariant_of-self-clause-within
invariant_of-self-clause-within c = within_bytes c.args.self.now.source.now c.args.self.now.rest.now c.in-Some.rest.now
    (encode_utf8 c.in-Some.c) c.args.self.now.within c.in-Some.ensures.bytes

pub invariant_of-self-clause-utf8 : goal.invariant_of-self-clause-utf8
invariant_of-self-clause-utf8 c = utf8_behind c.args.self.now.rest.now c.in-Some.rest.now c.in-Some.c
    c.args.self.now.utf8 c.in-Some.ensures.bytes

pub returns-else-is_breakz-clause-read : goal.returns-else-is_breakz-clause-read
returns-else-is_breakz-clause-read c = λ u is.
    let seen = first_left c.args.self.now.source.now c.args.self.now.rest.now c.in-Some.c (chars c.in-Some.rest.now) u
    c.in-Some.ensures.some is in (
      ap is_breakz (sym seen) ∙ sym c.is_breakz.ensures ∙ c.if-is_breakz.false,
      seen,
      read_left c.args.self.now.source.now c.args.self.now.rest.now c.in-Some.rest.now c.in-Some.c u
          c.args.self.now.within c.in-Some.ensures.some c.in-Some.ensures.bytes is,
    )

pub returns-in-None-clause-read : goal.returns-in-None-clause-read
returns-in-None-clause-read c = λ u is. (
  end_breakz c.args.self.now.source.now c.args.self.now.rest.now u
      c.in-None.ensures.none is,
  is,
)
