use Rattle.std.proofs.Common.{◌≡◌, [], Some, Ok, sym, ap, ◌∙◌}
use Rattle.std.proofs.lemmas.Result.{err_from_is_err_and}
use Rattle.granit_lexemes.specs.Here.{step}
use Rattle.granit_lexemes.specs.Basics.{past_break}
use Rattle.granit_lexemes.specs.QuotedScalar.{QuotedState}
use Rattle.granit_quoted.specs.QuotedCode.{quoted_state, quoted_ahead}
use Rattle.granit_cursor.specs.Tokens.{layout_data}
use Rattle.granit_quoted.specs.declared.quoted.Ahead.{Ahead}
use Rattle.granit_quoted.specs.declared.quoted.Ahead.TheVariants.{Blank, Break, Content, End}
use Rattle.granit_quoted.proofs.QuotedLemmas.{over_gap, over_content, content_fails, ahead_fails, at_end}
use Rattle.granit_refused.specs.Answered.{why}
use Rattle.granit_quoted.proofs.quoted.take_turn.Goals as goal

pub returns-in_err-look_ahead-clause-here : goal.returns-in_err-look_ahead-clause-here
returns-in_err-look_ahead-clause-here g c = λ h k.
    let p = err_from_is_err_and c.from_residual.result c.from_residual.ensures.1 in
    let looked = c.in_err-look_ahead.ensures.here h k in
    rw (p.1, p.2) (ahead_fails c.args.single (layout_data c.args.at.now) c.args.start c.args.parts.now h
    (why c.look_ahead.new.fault c.in_err-look_ahead.field-0.0) looked.1)

pub returns-in_err-take_content-in-Content-clause-here : goal.returns-in_err-take_content-in-Content-clause-here
returns-in_err-take_content-in-Content-clause-here g c = λ h k.
    let p = err_from_is_err_and c.from_residual-in_err-take_content-in-Content.result
    c.from_residual-in_err-take_content-in-Content.ensures.1 in
    let looked = c.in_ok-look_ahead.ensures.here h k in
    let is : quoted_ahead c.args.single (layout_data c.args.at.now) c.args.start (quoted_state c.args.parts.now h)
    ≡ Ok Content = looked.1 ∙ ap (λ (a : Ahead). Ok a) c.in-Content.is in
    rw (p.1, p.2) (content_fails c.args.single (layout_data c.args.at.now) c.args.start c.args.parts.now h
    (why c.take_content.new.fault c.in_err-take_content-in-Content.field-0.0) is
    (c.in_err-take_content-in-Content.ensures.here h looked.0))

pub returns-in_ok-take_blank-in-Blank-clause-here : goal.returns-in_ok-take_blank-in-Blank-clause-here
returns-in_ok-take_blank-in-Blank-clause-here g c = λ h k.
    let looked = c.in_ok-look_ahead.ensures.here h k in
    let is : quoted_ahead c.args.single (layout_data c.args.at.now) c.args.start (quoted_state c.args.parts.now h)
    ≡ Ok Blank = looked.1 ∙ ap (λ (a : Ahead). Ok a) c.in-Blank.is in
    let taken = c.in_ok-take_blank-in-Blank.ensures.here h looked.0 in (
      step h,
      taken.0,
      over_gap c.args.single (layout_data c.args.at.now) c.args.start c.args.parts.now
          c.take_blank.new.parts h (step h) Blank is (ap (λ (s : QuotedState). Ok (Some [], s)) (sym taken.1))
          c.in_ok-take_blank-in-Blank.ensures.value,
    )

pub returns-in_ok-take_break-in-Break-clause-here : goal.returns-in_ok-take_break-in-Break-clause-here
returns-in_ok-take_break-in-Break-clause-here g c = λ h k.
    let looked = c.in_ok-look_ahead.ensures.here h k in
    let is : quoted_ahead c.args.single (layout_data c.args.at.now) c.args.start (quoted_state c.args.parts.now h)
    ≡ Ok Break = looked.1 ∙ ap (λ (a : Ahead). Ok a) c.in-Break.is in
    let taken = c.in_ok-take_break-in-Break.ensures.here h looked.0 in (
      past_break h,
      taken.0,
      over_gap c.args.single (layout_data c.args.at.now) c.args.start c.args.parts.now
          c.take_break.new.parts h (past_break h) Break is (ap (λ (s : QuotedState). Ok (Some [], s)) (sym taken.1))
          c.in_ok-take_break-in-Break.ensures.value,
    )

pub returns-in_ok-take_words-in-Content-clause-here : goal.returns-in_ok-take_words-in-Content-clause-here
returns-in_ok-take_words-in-Content-clause-here g c = λ h k.
    let at = layout_data c.args.at.now in
    let looked = c.in_ok-look_ahead.ensures.here h k in
    let is : quoted_ahead c.args.single at c.args.start (quoted_state c.args.parts.now h)
    ≡ Ok Content = looked.1 ∙ ap (λ (a : Ahead). Ok a) c.in-Content.is in
    let taken = c.in_ok-take_content-in-Content.ensures.here h looked.0 in
    let words = c.in_ok-take_words-in-Content.ensures.here taken.0 taken.2
    (ap (λ (s : QuotedState). s.pending) taken.5) (ap (λ (s : QuotedState). s.on_new_line) taken.5) in (
      words.0,
      words.1,
      words.2 at c.args.start ∙ over_content c.args.single at c.args.start c.args.parts.now
          c.take_content.new.parts h taken.0 taken.1 is taken.3 taken.4 taken.5,
    )

pub returns-in-End-clause-here : goal.returns-in-End-clause-here
returns-in-End-clause-here g c = λ h k.
    let looked = c.in_ok-look_ahead.ensures.here h k in
    let is : quoted_ahead c.args.single (layout_data c.args.at.now) c.args.start (quoted_state c.args.parts.now h)
    ≡ Ok End = looked.1 ∙ ap (λ (a : Ahead). Ok a) c.in-End.is in
    (h, looked.0, at_end c.args.single (layout_data c.args.at.now) c.args.start c.args.parts.now h is)
