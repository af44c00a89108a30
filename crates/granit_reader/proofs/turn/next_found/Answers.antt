use Rattle.std.proofs.Common.{refl}
use Rattle.std.proofs.lemmas.Result.{err_from_is_err_and}
use Rattle.granit_error.specs.OptionsView.{options_of}
use Rattle.granit_machine.specs.Reader.{read}
use Rattle.granit_steps.specs.Steps.{incoming}
use Rattle.granit_items.specs.ItemViews.{found_items}
use Rattle.granit_reader.specs.Reads.{reader_at}
use Rattle.granit_content.proofs.CodedLemmas.{coded_back, coded_fails}
use Rattle.granit_reader.proofs.TurnLemmas.{turn_given, turn_refused, turn_ended}
use Rattle.granit_refused.specs.Answered.{why}
use Rattle.granit_reader.proofs.turn.next_found.Goals as goal

pub returns-then-ended-clause-here : goal.returns-then-ended-clause-here
returns-then-ended-clause-here g c = λ h k.
    let o = options_of c.args.options.now in
    let s = reader_at h c.args.layouts.now in
    (s, (k, refl), rw (c.if-ended.true, c.requires.no_lexeme, c.requires.no_note) (turn_ended o s o.emit_comments))

pub returns-in_err-read-clause-here : goal.returns-in_err-read-clause-here
returns-in_err-read-clause-here g c = λ h k.
    let o = options_of c.args.options.now in
    let s = reader_at h c.args.layouts.now in
    let e = (why c.read.new.fault c.in_err-read.field-0.0) in
    let p = err_from_is_err_and c.from_residual.result c.from_residual.ensures.1 in
    rw (p.1, p.2, c.if-ended.false) (λ other. turn_refused o s e
    (coded_fails (incoming o.emit_comments) (read o s) e (c.in_err-read.ensures.here h k) other))

pub returns-clause-here : goal.returns-clause-here
returns-clause-here g c = λ h k.
    let o = options_of c.args.options.now in
    let s = reader_at h c.args.layouts.now in
    let one = c.in_ok-read.ensures.here h k in
    let items = coded_back (incoming o.emit_comments) (read o s) (found_items c.read.new.found) one.0 one.2 in (
      one.0,
      one.1,
      rw (c.if-ended.false, c.is_end.ensures)
          (turn_given o s o.emit_comments items.0 (found_items c.read.new.found) one.0 items.1 items.2),
    )

pub returns-in_err-read-clause-met : goal.returns-in_err-read-clause-met
returns-in_err-read-clause-met g c = λ h k.
    let p = err_from_is_err_and c.from_residual.result c.from_residual.ensures.1 in
    rw (p.1, p.2) (c.in_err-read.ensures.met h k)

pub returns-in_err-read-clause-memory : goal.returns-in_err-read-clause-memory
returns-in_err-read-clause-memory g c = λ unasked h k none.
    let p = err_from_is_err_and c.from_residual.result c.from_residual.ensures.1 in
    rw (p.1, p.2) (c.in_err-read.ensures.memory unasked h k (rw c.if-ended.false at none))
