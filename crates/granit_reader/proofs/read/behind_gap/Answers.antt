use Rattle.std.proofs.Common.{◌∙◌, refl, sym, ap, Err}
use Rattle.std.proofs.lemmas.Result.{err_from_is_err_and}
use Rattle.granit_base.specs.Place.{Mark}
use Rattle.granit_error.specs.OptionsView.{options_of}
use Rattle.granit_machine.specs.PossibleKeys.{without_stale}
use Rattle.granit_items.specs.ItemViews.{boxed_view}
use Rattle.granit_content.specs.Reads.{tail_view}
use Rattle.granit_reader.specs.Reads.{reader_at}
use Rattle.granit_reader.proofs.MeetLemmas.{meets_kept, meets_lexeme, meets_passed, meets_stale, unless_memory}
use Rattle.granit_reader.proofs.MemoryLemmas.{fresh_lexeme, stale_refused}
use Rattle.granit_reader.proofs.ReadLemmas.{note_passed, note_kept}
use Rattle.granit_refused.specs.Answered.{answered, why}
use Rattle.granit_reader.proofs.read.behind_gap.Goals as goal

pub returns-in-Passed-clause-here : goal.returns-in-Passed-clause-here
returns-in-Passed-clause-here g c = λ t is h k.
    let o = options_of c.args.options.now in
    let s = reader_at h c.args.layouts.now in
    let given = note_passed o o.emit_comments t s (sym (ap tail_view c.in-Passed.is) ∙ is) in
    (s, (k, refl), rw (c.requires.no_lexeme, c.requires.no_note) given)

pub returns-in-Kept-clause-here : goal.returns-in-Kept-clause-here
returns-in-Kept-clause-here g c = λ t is h k.
    let o = options_of c.args.options.now in
    let s = reader_at h c.args.layouts.now in
    let given = note_kept o o.emit_comments t (boxed_view c.in-Kept.note) s (sym (ap tail_view c.in-Kept.is) ∙ is) in
    (s, (k, refl), rw c.requires.no_lexeme given)

pub returns-in-Passed-clause-met : goal.returns-in-Passed-clause-met
returns-in-Passed-clause-met g c = λ t is h k.
    let o = options_of c.args.options.now in
    rw c.requires.unmet (meets_passed o o.emit_comments t (reader_at h c.args.layouts.now)
    (sym (ap tail_view c.in-Passed.is) ∙ is))

pub returns-in-Kept-clause-met : goal.returns-in-Kept-clause-met
returns-in-Kept-clause-met g c = λ t is h k.
    let o = options_of c.args.options.now in
    rw c.requires.unmet (meets_kept o o.emit_comments t (boxed_view c.in-Kept.note) (reader_at h c.args.layouts.now)
    (sym (ap tail_view c.in-Kept.is) ∙ is))

pub returns-in_err-drop_stale-in-Nothing-clause-met : goal.returns-in_err-drop_stale-in-Nothing-clause-met
returns-in_err-drop_stale-in-Nothing-clause-met g c = λ t is h k.
    let o = options_of c.args.options.now in
    let laid = c.args.layouts.now in
    let e = why c.drop_stale.new.fault c.in_err-drop_stale-in-Nothing.field-0.0 in
    let p = err_from_is_err_and c.from_residual.result c.from_residual.ensures.1 in
    let stale = ap (λ (m : Mark). without_stale o m laid) (sym (c.mark.ensures.here h k))
    ∙ c.in_err-drop_stale-in-Nothing.ensures in
    rw (p.1, p.2, c.requires.unmet) (λ other. meets_stale o o.emit_comments t h laid
    (sym (ap tail_view c.in-Nothing.is) ∙ is) e stale)

pub returns-in_ok-drop_stale-in-Nothing-clause-met : goal.returns-in_ok-drop_stale-in-Nothing-clause-met
returns-in_ok-drop_stale-in-Nothing-clause-met g c = λ t is h k.
    let o = options_of c.args.options.now in
    let laid = c.args.layouts.now in
    let fresh = ap (λ (m : Mark). without_stale o m laid) (sym (c.mark.ensures.here h k))
    ∙ c.in_ok-drop_stale-in-Nothing.ensures in
    unless_memory (answered c.lexeme.new.fault c.lexeme.result) _
    (meets_lexeme o o.emit_comments t h laid (sym (ap tail_view c.in-Nothing.is) ∙ is)
    c.lexeme.new.met c.drop_stale.new.self fresh (c.lexeme.ensures.met h k))

pub returns-in_err-drop_stale-in-Nothing-clause-memory : goal.returns-in_err-drop_stale-in-Nothing-clause-memory
returns-in_err-drop_stale-in-Nothing-clause-memory g c = λ t is unasked h k none.
    let p = err_from_is_err_and c.from_residual.result c.from_residual.ensures.1 in
    rw (p.1, p.2) (stale_refused (options_of c.args.options.now) c.mark.result c.args.layouts.now
    c.drop_stale.new.self (Err (why c.drop_stale.new.fault c.in_err-drop_stale-in-Nothing.field-0.0))
    c.in_err-drop_stale-in-Nothing.ensures)

pub returns-in_ok-drop_stale-in-Nothing-clause-memory : goal.returns-in_ok-drop_stale-in-Nothing-clause-memory
returns-in_ok-drop_stale-in-Nothing-clause-memory g c = λ t is unasked h k none.
    let o = options_of c.args.options.now in
    let nothing = sym (ap tail_view c.in-Nothing.is) ∙ is in
    c.lexeme.ensures.memory unasked h k (fresh_lexeme o o.emit_comments t h c.args.layouts.now c.drop_stale.new.self
    c.mark.result nothing (c.mark.ensures.here h k) c.in_ok-drop_stale-in-Nothing.ensures none)
