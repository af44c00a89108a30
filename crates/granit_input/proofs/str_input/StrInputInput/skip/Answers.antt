use Rattle.std.specs.Char.{encode_utf8}
use Rattle.granit_runs.proofs.StringLemmas.{suffix_bytes, within_bytes, utf8_behind, read_left, end_left}
use Rattle.granit_input.proofs.str_input.StrInputInput.skip.Goals as goal

pub invariant_of-self-clause-suffix : goal.invariant_of-self-clause-suffix
invariant_of-self-clause-suffix c = suffix_bytes c.args.self.now.source.now c.args.self.now.rest.now c.in-Some.rest.now
    (encode_utf8 c.in-Some.field-0-0) c.args.self.now.within c.args.self.now.suffix c.in-Some.ensures.bytes

pub invariant_of-self-clause-within : goal.invariant_of-self-clause-within
invariant_of-self-clause-within c = within_bytes c.args.self.now.source.now c.args.self.now.rest.now c.in-Some.rest.now
    (encode_utf8 c.in-Some.field-0-0) c.args.self.now.within c.in-Some.ensures.bytes

pub invariant_of-self-clause-utf8 : goal.invariant_of-self-clause-utf8
invariant_of-self-clause-utf8 c = utf8_behind c.args.self.now.rest.now c.in-Some.rest.now c.in-Some.field-0-0
    c.args.self.now.utf8 c.in-Some.ensures.bytes

pub returns-in-Some-clause-unread : goal.returns-in-Some-clause-unread
returns-in-Some-clause-unread c = λ u is. read_left c.args.self.now.source.now c.args.self.now.rest.now
    c.in-Some.rest.now c.in-Some.field-0-0 u c.args.self.now.within c.in-Some.ensures.some c.in-Some.ensures.bytes is

pub returns-in_default-clause-unread : goal.returns-in_default-clause-unread
returns-in_default-clause-unread c = λ u is. end_left c.args.self.now.source.now c.args.self.now.rest.now 1 u
    c.args.self.now.within c.in_default.ensures.none is
