use Rattle.std.proofs.Common.{◌++◌, take, sym, ap, ◌∙◌}
use Rattle.granit_lexemes.specs.Moves.{steps}
use Rattle.granit_quoted.specs.QuotedTaken.{QuotedTaken}
use Rattle.granit_quoted.proofs.KeptLemmas.{words_taken}
use Rattle.granit_quoted.proofs.quoted.take_words.Goals as goal

pub returns-clause-here : goal.returns-clause-here
returns-clause-here g c = λ h k none line.
    let taken = c.in_ok-fetch_quoted_words.ensures.here h k in
    let n = c.in_ok-fetch_quoted_words.field-0 in
    let escaped = sym (ap (λ (p : QuotedTaken). p.escaped) c.parts.view_is) ∙ c.if-parts.false in (
      steps n h,
      taken.0.1,
      λ at start. words_taken c.args.single at start _ c.args.parts.now n h none line escaped taken.0.0
          (taken.1 ∙ ap (λ (p : QuotedTaken). p.value ++ take n h.unread.text) c.parts.view_is)
          (ap (λ (p : QuotedTaken). p.pending) c.parts.view_is)
          (ap (λ (p : QuotedTaken). p.on_new_line) c.parts.view_is)
          (ap (λ (p : QuotedTaken). p.escaped) c.parts.view_is),
    )
