use Rattle.std.proofs.Common.{ap, ◌∙◌}
use Rattle.granit_base.specs.Written.{string_chars}
use Rattle.granit_lexemes.specs.Here.{step}
use Rattle.granit_cursor.specs.Tokens.{layout_data}
use Rattle.granit_quoted.specs.QuotedCode.{quoted_state}
use Rattle.granit_quoted.specs.QuotedTaken.{QuotedTaken}
use Rattle.granit_quoted.proofs.KeptLemmas.{taken_given}
use Rattle.granit_quoted.proofs.quoted.read_parts.Goals as goal

pub returns-clause-here : goal.returns-clause-here
returns-clause-here g c = λ h k.
    let read = c.in_ok-parts.ensures.here h k in
    let closed = c.step.ensures.here read.0 read.1 in
    let grown = ap (λ (p : QuotedTaken). p.value) c.parts.view_is ∙ c.in_ok-push_between.ensures.value read.0 in
    rw (taken_given c.args.single (layout_data c.args.at.now) c.args.start c.args.taken h
    c.in_ok-parts.parts.value (string_chars c.parts.inside.value)
    (quoted_state c.in_ok-parts.parts read.0) read.2 grown)
    (rw c.owned.ensures at (c.quoted_tail.ensures.here (step read.0) closed))
