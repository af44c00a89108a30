use Rattle.std.proofs.Common.{ℕ, List, sym, ap, ◌∙◌}
use Rattle.std.proofs.lemmas.Iterator.{YieldsList-from_chars}
use Rattle.std.proofs.lemmas.Iterator.Consumers.{YieldsList-end}
use Rattle.std.proofs.lemmas.List.{map-id}
use Rattle.granit_quoted.specs.QuotedCode.{kept_char, kept_chars}
use Rattle.granit_quoted.specs.QuotedTaken.{QuotedTaken}
use Rattle.granit_quoted.proofs.KeptLemmas.{kept_more}
use Rattle.granit_quoted.proofs.quoted.push_all_kept.Goals as goal

pub loop-c-preserved : goal.loop-c-preserved
loop-c-preserved c =
    c.in_ok-push_kept.ensures ∙ ap (λ (p : QuotedTaken). kept_char p c.in-Some.c) c.loop-c.invariant
    ∙ sym (kept_more c.loop-c.yielded c.args.parts.now c.in-Some.c)

-- every character was gone over
pub returns : goal.returns
returns c =
    let chars_yielded = YieldsList-end (YieldsList-from_chars c.args.text.now c.utf8.text cc) c.loop-c.yielded _
    c.loop-c.yielded_by _ _ c.in-None.is c.next.ensures.steps in
    let all = sym (map-id c.loop-c.yielded) ∙ chars_yielded.0 in
    c.loop-c.invariant ∙ ap (λ (cs : List ℕ). kept_chars c.args.parts.now cs) all
