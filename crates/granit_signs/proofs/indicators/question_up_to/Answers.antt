use Rattle.std.proofs.Common.{◌≡◌, ◌==◌, true, false, refl, sym, arith}
use Rattle.std.proofs.lemmas.Bool.Decides.{nat_tests}
use Rattle.std.proofs.lemmas.Result.{err_from_is_err_and}
use Rattle.granit_error.specs.OptionsView.{options_of}
use Rattle.granit_lexemes.specs.Here.{next_char}
use Rattle.granit_items.specs.ItemViews.{lexeme_view}
use Rattle.granit_content.specs.Reads.{tail_view}
use Rattle.granit_content.proofs.MemoryLemmas.{tab_refused}
use Rattle.granit_signs.proofs.IndicatorLemmas.{question_with_note, question_ready}
use Rattle.granit_signs.proofs.indicators.question_up_to.Goals as goal

pub returns-then-peek-eq35-clause-here : goal.returns-then-peek-eq35-clause-here
returns-then-peek-eq35-clause-here g c = λ none h k.
    let o = options_of c.args.options.now in
    let found : c.peek.result ≡ next_char h = c.peek.ensures.value h.unread (rw c.input.ensures k.0) in
    let hash : (next_char h == 0x23) ≡ true = grind (arith, nat_tests, found, c.if-peek-eq35.true) in
    let note = c.in_ok-note.ensures.here h k in (
      record { here = note.0; laid = c.count_lexeme.new.self },
      (note.1, refl),
      rw (c.put_tail.ensures, c.count_lexeme.ensures) (question_with_note o.emit_comments o
          (lexeme_view c.args.found.now) h c.args.layouts.now (tail_view c.in_ok-note.note) note.0 hash note.2),
    )

pub returns-in_err-refuse_tab-clause-memory : goal.returns-in_err-refuse_tab-clause-memory
returns-in_err-refuse_tab-clause-memory g c = λ unasked.
    let at = c.from_residual-in_err-refuse_tab in
    let p = err_from_is_err_and at.result at.ensures.1 in
    rw (p.1, p.2) (tab_refused (options_of c.args.options.now) c.args.layouts.now c.mark.result c.leading_tab-tab.result
    _ c.in_err-refuse_tab.ensures)

pub returns-clause-here : goal.returns-clause-here
returns-clause-here g c = λ none h k.
    let o = options_of c.args.options.now in
    let found : c.peek.result ≡ next_char h = c.peek.ensures.value h.unread (rw c.input.ensures k.0) in
    let hash : (next_char h == 0x23) ≡ false = grind (arith, nat_tests, found, c.if-peek-eq35.false) in
    let tabs = rw (c.mark.ensures.here h k, c.leading_tab-tab.ensures h k) at (sym c.in_ok-refuse_tab.ensures) in (
      record { here = h; laid = c.count_lexeme-2.new.self },
      (k, refl),
      rw c.count_lexeme-2.ensures
          (question_ready o.emit_comments o (lexeme_view c.args.found.now) h c.args.layouts.now hash tabs none),
    )
