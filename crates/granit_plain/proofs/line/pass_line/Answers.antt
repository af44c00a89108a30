use Rattle.std.proofs.Common.{◌+◌, sym, ◌∙◌, arith}
use Rattle.std.proofs.lemmas.Str.{chars-nil}
use Rattle.granit_input.proofs.OriginLemmas.{goes_nowhere, goes_on}
use Rattle.granit_lexemes.specs.Moves.{steps}
use Rattle.granit_cursor.specs.Tokens.{layout_data}
use Rattle.granit_cursor.proofs.SourceLemmas.{spelled_on}
use Rattle.granit_plain.proofs.LineLemmas.{along_none, along_more, along_word, left_along, line_begins, line_over}
use Rattle.granit_plain.proofs.LineLemmas.{word_goes}
use Rattle.granit_runs.proofs.RunLemmas.{none_taken}
use Rattle.granit_plain.proofs.line.pass_line.Goals as goal

pub line-init : goal.line-init
line-init g c = record {
  told = λ h k lends from start. (
    0,
    h,
    k,
    along_none h,
    line_begins (layout_data c.args.at.now) c.args.start h,
    chars-nil ∙ sym (none_taken h.unread.text),
    start,
  );
  moves = (omega arith, goes_nowhere _, λ start before. before);
}

pub returns-then-not-content-clause-here : goal.returns-then-not-content-clause-here
returns-then-not-content-clause-here g c = λ h k lends from start.
    let told = c.line.invariant.told h k lends from start in
    let m = told.0 in
    let now = told.1 in
    let word = rw c.if-not-content.true at (c.pass_word-blank.ensures.here now told.2) in
    let passed = line_over (layout_data c.args.at.now) c.args.start h now m word.0 c.pass_word-blank.result.0
    told.4 told.3 word.1 word.2 word.3 in
    (steps word.0 now, word.4, rw (told.5, told.6) passed)

pub returns-in-Err-clause-here : goal.returns-in-Err-clause-here
returns-in-Err-clause-here g c = λ h k lends from start.
    let told = c.line.invariant.told h k lends from start in
    let m = told.0 in
    let now = told.1 in
    let word = rw c.if-not-content.false at (c.pass_word-blank.ensures.here now told.2) in
    let along = along_more m (word.0 + word.1) h now (steps word.1 (steps word.0 now)) told.3
    (along_word c.args.at.now.in_flow word.0 word.1 now (omega (arith, word.2)) (omega (arith, word.5))) in
    let on = spelled_on (g.T.Input.origin c.args.cursor.now.input) (g.T.Input.origin c.pass_word-blank.new.cursor.input)
    (g.T.Input.left c.args.cursor.now.input) h.unread
    (goes_on _ _ _ c.line.invariant.moves.1 c.pass_word-blank.ensures.moves.1)
    (g.met.T.Input.agrees c.args.cursor.now.input h.unread k.0) lends in
    let behind = left_along g.T.Input.unread c.pass_word-blank.new.cursor.input (m + (word.0 + word.1)) h
    (steps word.1 (steps word.0 now)) along word.7.0 in
    c.in-Err.ensures.here h.unread (m + (word.0 + word.1)) on.0 on.1 from behind

pub line-preserved : goal.line-preserved
line-preserved g c = record {
  told = λ h k lends from start.
      let told = c.line.invariant.told h k lends from start in
      let m = told.0 in
      let now = told.1 in
      let word = rw c.if-not-content.false at (c.pass_word-blank.ensures.here now told.2) in
      let along = along_more m (word.0 + word.1) h now (steps word.1 (steps word.0 now)) told.3
      (along_word c.args.at.now.in_flow word.0 word.1 now (omega (arith, word.2)) (omega (arith, word.5))) in
      let on = spelled_on (g.T.Input.origin c.args.cursor.now.input)
      (g.T.Input.origin c.pass_word-blank.new.cursor.input)
      (g.T.Input.left c.args.cursor.now.input) h.unread
      (goes_on _ _ _ c.line.invariant.moves.1 c.pass_word-blank.ensures.moves.1)
      (g.met.T.Input.agrees c.args.cursor.now.input h.unread k.0) lends in
      let behind = left_along g.T.Input.unread c.pass_word-blank.new.cursor.input (m + (word.0 + word.1)) h
      (steps word.1 (steps word.0 now)) along word.7.0 in (
        m + (word.0 + word.1),
        steps word.1 (steps word.0 now),
        word.7,
        along,
        word_goes (layout_data c.args.at.now) c.args.start h now m word.0 word.1 c.pass_word-blank.result.0 told.4
            told.3
            (omega (arith, word.2)) word.3 word.4 word.5 word.6,
        c.in-Ok.ensures.here h.unread (m + (word.0 + word.1)) on.0 on.1 from behind,
        c.mark-line.ensures.here (steps word.1 (steps word.0 now)) word.7,
      );
  moves =
      let old = c.line.invariant.moves in
      let new = c.pass_word-blank.ensures.moves in
      (omega (arith, old.0, new.0), goes_on _ _ _ old.1 new.1, λ start before. new.2 start (old.2 start before));
}
