use Rattle.std.proofs.Common.{ℕ, List, ◌++◌, sym, ap, ◌∙◌}
use Rattle.std.proofs.lemmas.Iterator.{YieldsList-from_chars}
use Rattle.std.proofs.lemmas.Iterator.Consumers.{YieldsList-end}
use Rattle.std.proofs.lemmas.List.{map-id}
use Rattle.granit_base.specs.Written.{string_chars}
use Rattle.granit_model.specs.FlowText.{quoted_character, quoted_characters}
use Rattle.granit_model.proofs.TextLemmas.{quoted_push}
use Rattle.granit_model.proofs.writing.push_quoted_characters.Goals as goal

pub loop-c-preserved : goal.loop-c-preserved
loop-c-preserved c =
    λ rest. c.in_ok-push_quoted_character.ensures rest ∙ c.loop-c.invariant (quoted_character c.in-Some.c rest)
    ∙ ap (λ (cs : List ℕ). string_chars c.args.out.now ++ cs) (sym (quoted_push c.loop-c.yielded c.in-Some.c rest))

-- every character was gone over
pub returns-clause-written : goal.returns-clause-written
returns-clause-written c =
    let chars_yielded = YieldsList-end (YieldsList-from_chars c.args.text.now c.utf8.text cc) c.loop-c.yielded _
    c.loop-c.yielded_by _ _ c.in-None.is c.next.ensures.steps in
    let all = sym (map-id c.loop-c.yielded) ∙ chars_yielded.0 in
    λ rest. c.loop-c.invariant rest ∙ ap (λ (cs : List ℕ). string_chars c.args.out.now ++ quoted_characters cs rest) all
