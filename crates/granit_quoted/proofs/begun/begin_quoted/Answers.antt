use Rattle.std.proofs.Common.{ℕ, ◌+◌, List, ◌++◌, take, refl, sym, ap, subst, ◌∙◌}
use Rattle.granit_lexemes.specs.Here.{step}
use Rattle.granit_lexemes.specs.Moves.{steps}
use Rattle.granit_cursor.proofs.MoveLemmas.{cleared}
use Rattle.granit_cursor.proofs.QuotedMoves.{quoted_steps, same_quote}
use Rattle.granit_cursor.specs.Reading.{Stands}
use Rattle.granit_quoted.proofs.BegunLemmas.{closed_by, open_by}
use Rattle.granit_quoted.proofs.begun.begin_quoted.Goals as goal

pub returns-then-closes_here-clause-here : goal.returns-then-closes_here-clause-here
returns-then-closes_here-clause-here g c = λ h k sign.
    let single = c.args.single in
    let taken = c.in_ok-fetch_quoted_words.ensures.here (step h) (c.step.ensures.here h k) in
    let n = c.in_ok-fetch_quoted_words.field-0 in
    let words = taken.1 ∙ ap (λ (t : List ℕ). t ++ take n (step h).unread.text)
    (cleared c.in_ok-value.value c.in_ok-value.ensures.bytes) in
    let seen = c.closes_here.ensures.here (steps n (step h)) taken.0.1 in
    let facts = seen.1 c.if-closes_here.true in
    let opens = sign ∙ sym (same_quote single) in
    let closed = closed_by single c.args.in_flow h n _ opens taken.0.0 words facts.0 facts.1 in
    let far = quoted_steps n h ∙ refl in (
      closed.0,
      subst (λ (m : ℕ). Stands g.T.Input.unread c.step-then-closes_here.new.self (steps (m + 2) h)) (sym closed.1)
          (subst (Stands g.T.Input.unread c.step-then-closes_here.new.self) (sym far)
          (c.step-then-closes_here.ensures.here (steps n (step h)) seen.0)),
    )

pub returns-clause-here : goal.returns-clause-here
returns-clause-here g c = λ h k sign.
    let taken = c.in_ok-fetch_quoted_words.ensures.here (step h) (c.step.ensures.here h k) in
    let n = c.in_ok-fetch_quoted_words.field-0 in
    let words = taken.1 ∙ ap (λ (t : List ℕ). t ++ take n (step h).unread.text)
    (cleared c.in_ok-value.value c.in_ok-value.ensures.bytes) in
    let seen = c.closes_here.ensures.here (steps n (step h)) taken.0.1 in (
      steps n (step h),
      seen.0,
      λ at start. open_by c.args.single at start (step h) n _ taken.0.0 words,
    )
