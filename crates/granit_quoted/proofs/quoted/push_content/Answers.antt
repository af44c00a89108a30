use Rattle.std.proofs.Common.{sym, ap, ◌∙◌}
use Rattle.std.proofs.lemmas.List.{append-nil}
use Rattle.granit_quoted.specs.QuotedTaken.{QuotedTaken}
use Rattle.granit_quoted.proofs.quoted.push_content.Goals as goal

pub returns-in-Some-clause-value : goal.returns-in-Some-clause-value
returns-in-Some-clause-value c = λ h. rw (
  c.in-Some.is,
  ← c.in_ok-push_between.ensures.value h,
  ← ap
      (λ (p : QuotedTaken). p.value) c.parts.view_is,
) c.push_char.ensures.appended

pub returns-in-None-clause-value : goal.returns-in-None-clause-value
returns-in-None-clause-value c = λ h. rw c.in-None.is
    (ap (λ (p : QuotedTaken). p.value) c.parts.view_is ∙ c.in_ok-push_between.ensures.value h ∙ sym (append-nil _))
