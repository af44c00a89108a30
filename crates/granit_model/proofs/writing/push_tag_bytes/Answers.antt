use Rattle.std.proofs.Common.{ℕ, List, ◌++◌, get_or, sym, ap, ◌∙◌}
use Rattle.std.proofs.lemmas.List.{take_all}
use Rattle.std.proofs.lemmas.Str.{encodes-chars}
use Rattle.granit_base.specs.Written.{string_chars}
use Rattle.granit_model.specs.FlowText.{tag_byte, tag_bytes}
use Rattle.granit_model.proofs.TextLemmas.{tag_more}
use Rattle.granit_model.proofs.writing.push_tag_bytes.Goals as goal

pub loop-b-preserved : goal.loop-b-preserved
loop-b-preserved c =
    let bytes = c.as_bytes-b-items.result.now in
    let i = c.loop-b.b-index in
    λ rest. c.in_ok-push_tag_byte.ensures rest ∙ c.loop-b.invariant (tag_byte (get_or bytes i 0) rest)
    ∙ ap (λ (cs : List ℕ). string_chars c.args.out.now ++ cs) (sym (tag_more bytes i rest c.loop-b-test.true))

-- the bytes are those that the characters are written with
pub returns-clause-written : goal.returns-clause-written
returns-clause-written c =
    let bytes = c.as_bytes-b-items.result.now in
    let all = take_all c.loop-b.b-index bytes c.loop-b-test.false ∙ c.as_bytes-b-items.ensures.value
    ∙ sym (encodes-chars c.args.tag.now c.utf8.tag) in
    λ rest. c.loop-b.invariant rest ∙ ap (λ (bs : List ℕ). string_chars c.args.out.now ++ tag_bytes bs rest) all
