use Rattle.std.proofs.Common.{◌+◌, true, None, length, refl, ap}
use Rattle.std.specs.Str.{chars}
use Rattle.granit_base.specs.Written.{Written}
use Rattle.granit_error.specs.OptionsView.{options_of}
use Rattle.granit_lexemes.specs.Here.{mark_of}
use Rattle.granit_lexemes.specs.Moves.{steps}
use Rattle.granit_lexemes.specs.QuotedScalar.{quoted_read}
use Rattle.granit_machine.specs.PossibleKeys.{layout_of}
use Rattle.granit_cursor.specs.Reading.{coded}
use Rattle.granit_quoted.specs.QuotedCode.{quoted_lexed}
use Rattle.granit_quoted.proofs.SeenQuoted.{seen_quoted}
use Rattle.granit_content.specs.ScalarReads.{layout_asking}
use Rattle.granit_content.proofs.ScalarLemmas.{quoted_items}
use Rattle.granit_content.proofs.scalars.quoted_lexeme.Goals as goal

pub returns-in-None-clause-here : goal.returns-in-None-clause-here
returns-in-None-clause-here g c = λ h k.
    c.quoted_by_turns.ensures.here h (c.in-None.ensures.here h k) (c.requires.sign h k)

pub returns-in-Some-clause-here : goal.returns-in-Some-clause-here
returns-in-Some-clause-here g c = λ h k.
    let o = options_of c.args.options.now in
    let l = c.args.layouts.now in
    let single = c.args.single in
    let inside = chars c.in-Some.text.now in
    let after = steps (length inside + 2) h in
    let text : Written = record { characters = inside; is_borrowed = true } in
    let lent = rw c.is_in_flow.ensures at (c.in-Some.ensures.here h k) in
    let end = c.mark.ensures.here after lent.2 in
    let read = quoted_read single (mark_of h) text (mark_of after) None in
    let is = seen_quoted single (layout_asking o.emit_comments (layout_of o h.place.column l)) h inside lent.0 lent.1 in
    let lexeme = rw (c.quoted_style.ensures, c.borrowed.ensures, end) at
    (c.write_lexeme.ensures h (c.start_of-start.ensures h k)) in (
      record { here = after; laid = c.count_lexeme.new.self },
      (lent.2, refl),
      rw (lexeme, c.count_lexeme.ensures)
          (quoted_items o o.emit_comments c.args.ends h l (quoted_lexed single read) after single
          (ap (coded (quoted_lexed single)) is)),
    )
