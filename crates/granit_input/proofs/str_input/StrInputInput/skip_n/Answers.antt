use Rattle.std.proofs.Common.{take, ap, ◌∙◌}
use Rattle.std.specs.Str.{chars, encode_utf8_all}
use Rattle.std.proofs.lemmas.Str.{is_utf8-from_IsUtf8}
use Rattle.granit_runs.specs.Unread.{past_count}
use Rattle.granit_runs.proofs.StringLemmas.{suffix_bytes, within_bytes, past_bytes}
use Rattle.granit_input.proofs.str_input.StrInputInput.skip_n.Goals as goal

pub invariant_of-self-clause-suffix : goal.invariant_of-self-clause-suffix
invariant_of-self-clause-suffix c = suffix_bytes c.args.self.now.source.now c.args.self.now.rest.now
    c.behind-self.result.now (encode_utf8_all (take c.args.count (chars c.args.self.now.rest.now)))
    c.args.self.now.within c.args.self.now.suffix c.behind-self.ensures.bytes

pub invariant_of-self-clause-within : goal.invariant_of-self-clause-within
invariant_of-self-clause-within c = within_bytes c.args.self.now.source.now c.args.self.now.rest.now
    c.behind-self.result.now (encode_utf8_all (take c.args.count (chars c.args.self.now.rest.now)))
    c.args.self.now.within c.behind-self.ensures.bytes

pub invariant_of-self-clause-utf8 : goal.invariant_of-self-clause-utf8
invariant_of-self-clause-utf8 c = is_utf8-from_IsUtf8 c.behind-self.result.now c.behind-self.utf8

pub returns-clause-unread : goal.returns-clause-unread
returns-clause-unread c = λ u is. ap (past_count c.args.count) is
    ∙ past_bytes c.args.self.now.source.now c.args.self.now.rest.now c.behind-self.result.now c.args.count
    c.args.self.now.within c.behind-self.ensures.text c.behind-self.ensures.bytes
