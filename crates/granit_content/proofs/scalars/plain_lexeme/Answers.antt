use Rattle.std.proofs.Common.{refl, ap, subst}
use Rattle.std.specs.Str.{chars}
use Rattle.granit_error.specs.OptionsView.{options_of}
use Rattle.granit_machine.specs.PossibleKeys.{layout_of}
use Rattle.granit_cursor.specs.Plain.{PassesPlain}
use Rattle.granit_cursor.specs.Reading.{Stands, coded}
use Rattle.granit_plain.specs.PlainCode.{plain_lexed}
use Rattle.granit_content.specs.ScalarReads.{layout_asking}
use Rattle.granit_content.proofs.ScalarLemmas.{plain_items}
use Rattle.granit_content.proofs.WordLemmas.{passed_at_once, passed_read}
use Rattle.granit_content.proofs.scalars.plain_lexeme.Goals as goal

pub returns-in-None-clause-here : goal.returns-in-None-clause-here
returns-in-None-clause-here g c = λ h k.
    let begun = c.start_of-start.ensures h k in
    let stays = subst (λ r. PassesPlain c.is_in_flow.result c.block_column.result h r
    (Stands g.T.Input.unread c.take_plain.new.cursor)) c.in-None.is (c.take_plain.ensures.here h k) in
    c.plain_by_turns.ensures.here h stays begun

pub returns-in-Some-clause-here : goal.returns-in-Some-clause-here
returns-in-Some-clause-here g c = λ h k.
    let o = options_of c.args.options.now in
    let l = c.args.layouts.now in
    let at = layout_asking o.emit_comments (layout_of o h.place.column l) in
    let Lands = Stands g.T.Input.unread c.take_plain.new.cursor in
    let begun = c.start_of-start.ensures h k in
    let passed = rw (c.is_in_flow.ensures, c.block_column.ensures) at
    (subst (λ r. PassesPlain c.is_in_flow.result c.block_column.result h r Lands) c.in-Some.is
    (c.take_plain.ensures.here h k)) in
    let read = passed_at_once at h (chars c.in-Some.read.0.now) c.in-Some.read.1 Lands passed in (
      record { here = read.after; laid = c.count_lexeme.new.self },
      (read.lands, refl),
      rw (c.write_lexeme.ensures h begun, c.count_lexeme.ensures, c.behind_plain_scalar.ensures, c.borrowed.ensures)
          (plain_items o o.emit_comments c.args.ends h l
          (plain_lexed (passed_read h (chars c.in-Some.read.0.now) c.in-Some.read.1 read.on_new_line)) read.after
          (ap (coded plain_lexed) read.is)),
    )
