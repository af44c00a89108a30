use Rattle.std.proofs.Common.{◌+◌, None, length, refl, sym, ap, ◌∙◌}
use Rattle.granit_base.specs.Written.{string_chars}
use Rattle.granit_cursor.specs.Reading.{coded}
use Rattle.granit_error.specs.OptionsView.{options_of}
use Rattle.granit_lexemes.proofs.HereLemmas.{step_lends}
use Rattle.granit_lexemes.specs.Basics.{owned}
use Rattle.granit_lexemes.specs.Here.{mark_of}
use Rattle.granit_lexemes.specs.Moves.{steps}
use Rattle.granit_lexemes.specs.QuotedScalar.{quoted_read}
use Rattle.granit_machine.specs.PossibleKeys.{layout_of}
use Rattle.granit_quoted.specs.QuotedCode.{quoted_lexed}
use Rattle.granit_quoted.proofs.KeptLemmas.{copied_is}
use Rattle.granit_quoted.proofs.SeenQuoted.{seen_owned}
use Rattle.granit_content.specs.ScalarReads.{layout_asking}
use Rattle.granit_content.proofs.ScalarLemmas.{quoted_items}
use Rattle.granit_content.proofs.scalars.quoted_copied.Goals as goal

pub returns-in-Closed-clause-here : goal.returns-in-Closed-clause-here
returns-in-Closed-clause-here g c = λ h k sign none.
    let o = options_of c.args.options.now in
    let l = c.args.layouts.now in
    let single = c.args.single in
    let inside = string_chars c.in-Closed.text in
    let after = steps (length inside + 2) h in
    let begun = rw (c.is_in_flow.ensures, c.in-Closed.is) at (c.in_ok-text.ensures.here h k sign) in
    let end = c.mark.ensures.here after begun.1 in
    let read = quoted_read single (mark_of h) (owned inside) (mark_of after) None in
    let is = seen_owned single (layout_asking o.emit_comments (layout_of o h.place.column l)) h inside begun.0 none in
    let lexeme = rw (c.quoted_style.ensures, c.owned.ensures, end) at
    (c.write_lexeme.ensures h (c.start_of-start.ensures h k)) in (
      record { here = after; laid = c.count_lexeme.new.self },
      (begun.1, refl),
      rw (lexeme, c.count_lexeme.ensures)
          (quoted_items o o.emit_comments c.args.ends h l (quoted_lexed single read) after single
          (ap (coded (quoted_lexed single)) is)),
    )

pub returns-in-Open-clause-here : goal.returns-in-Open-clause-here
returns-in-Open-clause-here g c = λ h k sign none.
    let begun = rw c.in-Open.is at (c.in_ok-text.ensures.here h k sign) in
    c.quoted_behind.ensures.here h begun.0 begun.1 (c.start_of-start.ensures h k)
    (λ d. copied_is c.args.single d h (mark_of h) refl (step_lends h ∙ none) ∙ sym (begun.2 d (mark_of h)))
