use Rattle.std.proofs.Common.{◌≡◌, ◌<◌, [], Some, Ok, sym, ap, subst, ◌∙◌, arith}
use Rattle.granit_base.specs.Place.{Place}
use Rattle.granit_lexemes.specs.Here.{step}
use Rattle.granit_lexemes.specs.Moves.{steps}
use Rattle.granit_lexemes.specs.Basics.{past_break}
use Rattle.granit_lexemes.specs.PlainScalar.{PlainState}
use Rattle.granit_plain.specs.PlainCode.{plain_state, ahead_of}
use Rattle.granit_cursor.specs.Tokens.{layout_data}
use Rattle.granit_plain.specs.declared.plain.Ahead.TheVariants.{Blank, Break, Tab, Content, End}
use Rattle.granit_plain.proofs.FurtherLines.{step_line}
use Rattle.granit_plain.proofs.LineLemmas.{words_go}
use Rattle.granit_plain.proofs.MemoryLemmas.{blank_stays, no_break, no_content}
use Rattle.granit_plain.proofs.PlainLemmas.{gap_goes, turn_ends, turn_refused}
use Rattle.granit_plain.proofs.plain.take_turn.Goals as goal

pub returns-in_ok-take_blank-in-Blank-clause-here : goal.returns-in_ok-take_blank-in-Blank-clause-here
returns-in_ok-take_blank-in-Blank-clause-here g c = λ h k.
    let looked = c.look_ahead.ensures.here h k in
    let is : ahead_of (layout_data c.args.at.now) (plain_state c.args.parts.now h) ≡ Blank = sym looked.1
    ∙ c.in-Blank.is in
    let taken = c.in_ok-take_blank-in-Blank.ensures.here h looked.0 in (
      step h,
      taken.0,
      gap_goes (layout_data c.args.at.now) c.args.start c.args.parts.now c.take_blank.new.parts h
          (step h) Blank is (ap (λ (s : PlainState). Ok (Some [], s)) (sym taken.1))
          c.in_ok-take_blank-in-Blank.ensures.value,
    )

pub returns-in_ok-take_break-in-Break-clause-here : goal.returns-in_ok-take_break-in-Break-clause-here
returns-in_ok-take_break-in-Break-clause-here g c = λ h k.
    let looked = c.look_ahead.ensures.here h k in
    let is : ahead_of (layout_data c.args.at.now) (plain_state c.args.parts.now h) ≡ Break = sym looked.1
    ∙ c.in-Break.is in
    let taken = c.in_ok-take_break-in-Break.ensures.here h looked.0 in (
      past_break h,
      taken.0,
      gap_goes (layout_data c.args.at.now) c.args.start c.args.parts.now c.take_break.new.parts h
          (past_break h) Break is (ap (λ (s : PlainState). Ok (Some [], s)) (sym taken.1))
          c.in_ok-take_break-in-Break.ensures.value,
    )

pub returns-in_ok-take_content-in-Content-clause-here : goal.returns-in_ok-take_content-in-Content-clause-here
returns-in_ok-take_content-in-Content-clause-here g c = λ h k.
    let looked = c.look_ahead.ensures.here h k in
    let is : ahead_of (layout_data c.args.at.now) (plain_state c.args.parts.now h) ≡ Content = sym looked.1
    ∙ c.in-Content.is in
    let taken = c.in_ok-take_content-in-Content.ensures.here h looked.0 in (
      steps taken.0 (step h),
      taken.2,
      words_go (layout_data c.args.at.now) c.args.start c.args.parts.now
          c.take_content.new.parts h taken.0 is taken.1 taken.3 taken.4,
    )

pub returns-in-Tab-clause-here : goal.returns-in-Tab-clause-here
returns-in-Tab-clause-here g c = λ h k.
    let looked = c.look_ahead.ensures.here h k in
    let is : ahead_of (layout_data c.args.at.now) (plain_state c.args.parts.now h) ≡ Tab = sym looked.1 ∙ c.in-Tab.is in
    λ other. rw (c.refuse_at.ensures.refusal, c.refuse_at.ensures.kept)
    (turn_refused (layout_data c.args.at.now) c.args.start c.args.parts.now h is)

pub returns-in-End-clause-here : goal.returns-in-End-clause-here
returns-in-End-clause-here g c = λ h k.
    let looked = c.look_ahead.ensures.here h k in
    let is : ahead_of (layout_data c.args.at.now) (plain_state c.args.parts.now h) ≡ End = sym looked.1 ∙ c.in-End.is in
    (h, looked.0, turn_ends (layout_data c.args.at.now) c.args.start c.args.parts.now h is)

-- ---- memory

pub returns-in_err-take_blank-in-Blank-clause-memory : goal.returns-in_err-take_blank-in-Blank-clause-memory
returns-in_err-take_blank-in-Blank-clause-memory g c = λ h k blanks.
    absurd (let done = c.in_err-take_blank-in-Blank.ensures.memory blanks.0 in cc)

pub returns-in_ok-take_blank-in-Blank-clause-memory : goal.returns-in_ok-take_blank-in-Blank-clause-memory
returns-in_ok-take_blank-in-Blank-clause-memory g c = λ h k blanks.
    let looked = c.look_ahead.ensures.here h k in
    let taken = c.in_ok-take_blank-in-Blank.ensures.here h looked.0 in
    let on = step_line h in (
      ap (λ (s : PlainState). s.on_new_line) taken.1
          ∙ blank_stays (layout_data c.args.at.now) (plain_state c.args.parts.now h) blanks.0,
      subst (λ (p : Place). c.args.start.place.line < p.line) taken.0.1 (omega (arith, on, blanks.1)),
    )

pub returns-in_err-take_break-in-Break-clause-memory : goal.returns-in_err-take_break-in-Break-clause-memory
returns-in_err-take_break-in-Break-clause-memory g c = λ h k blanks.
    let looked = c.look_ahead.ensures.here h k in
    absurd (no_break (layout_data c.args.at.now) c.args.start (plain_state c.args.parts.now h) blanks
    (sym looked.1 ∙ c.in-Break.is))

pub returns-in_ok-take_break-in-Break-clause-memory : goal.returns-in_ok-take_break-in-Break-clause-memory
returns-in_ok-take_break-in-Break-clause-memory g c = λ h k blanks.
    let looked = c.look_ahead.ensures.here h k in
    absurd (no_break (layout_data c.args.at.now) c.args.start (plain_state c.args.parts.now h) blanks
    (sym looked.1 ∙ c.in-Break.is))

pub returns-in_err-take_content-in-Content-clause-memory : goal.returns-in_err-take_content-in-Content-clause-memory
returns-in_err-take_content-in-Content-clause-memory g c = λ h k blanks.
    let looked = c.look_ahead.ensures.here h k in
    absurd (no_content (layout_data c.args.at.now) c.args.start (plain_state c.args.parts.now h) blanks
    (sym looked.1 ∙ c.in-Content.is))

pub returns-in_ok-take_content-in-Content-clause-memory : goal.returns-in_ok-take_content-in-Content-clause-memory
returns-in_ok-take_content-in-Content-clause-memory g c = λ h k blanks.
    let looked = c.look_ahead.ensures.here h k in
    absurd (no_content (layout_data c.args.at.now) c.args.start (plain_state c.args.parts.now h) blanks
    (sym looked.1 ∙ c.in-Content.is))

pub returns-in-End-clause-memory : goal.returns-in-End-clause-memory
returns-in-End-clause-memory g c = λ h k blanks.
    let looked = c.look_ahead.ensures.here h k in
    (blanks.0, subst (λ (p : Place). c.args.start.place.line < p.line) looked.0.1 blanks.1)
