use Rattle.std.proofs.Common.{sym, subst, ◌∙◌}
use Rattle.granit_runs.specs.Runs.{starts}
use Rattle.granit_lexemes.specs.QuotedScalar.{is_kept}
use Rattle.granit_cursor.proofs.SourceLemmas.{found_lends, not_found_lends, spelled_on, run_behind}
use Rattle.granit_quoted.proofs.KeptLemmas.{kept_keeps}
use Rattle.granit_quoted.proofs.quoted.pass_kept.Goals as goal

pub returns-in-Ok-clause-here : goal.returns-in-Ok-clause-here
returns-in-Ok-clause-here g c = λ h k.
    let taken = c.skip_kept.ensures.here h k in
    let n = taken.0 in
    let there = found_lends c.in-Some.start h.unread (sym c.in-Some.is ∙ c.lending_offset.ensures h k) in
    let on = spelled_on (g.T.Input.origin c.args.cursor.now.input) (g.T.Input.origin c.skip_kept.new.cursor.input)
    (g.T.Input.left c.args.cursor.now.input) h.unread c.skip_kept.ensures.moves.1
    (g.met.T.Input.agrees c.args.cursor.now.input h.unread k.0) there.0 in
    let behind = subst (g.T.Input.unread c.skip_kept.new.cursor.input)
    (run_behind (starts (is_kept c.args.single)) n h (kept_keeps c.args.single) taken.1.0) taken.1.1.0 in
    (n, taken.1.0, taken.1.1, there.0, c.in-Ok.ensures.here h.unread n on.0 on.1 there.1 behind)

pub returns-in-Err-clause-here : goal.returns-in-Err-clause-here
returns-in-Err-clause-here g c = λ h k.
    let taken = c.skip_kept.ensures.here h k in
    let n = taken.0 in
    let there = found_lends c.in-Some.start h.unread (sym c.in-Some.is ∙ c.lending_offset.ensures h k) in
    let on = spelled_on (g.T.Input.origin c.args.cursor.now.input) (g.T.Input.origin c.skip_kept.new.cursor.input)
    (g.T.Input.left c.args.cursor.now.input) h.unread c.skip_kept.ensures.moves.1
    (g.met.T.Input.agrees c.args.cursor.now.input h.unread k.0) there.0 in
    let behind = subst (g.T.Input.unread c.skip_kept.new.cursor.input)
    (run_behind (starts (is_kept c.args.single)) n h (kept_keeps c.args.single) taken.1.0) taken.1.1.0 in
    c.in-Err.ensures.here h.unread n on.0 on.1 there.1 behind

pub returns-in-None-clause-here : goal.returns-in-None-clause-here
returns-in-None-clause-here g c = λ h k. (
  not_found_lends (g.T.Input.left c.args.cursor.now.input) (g.T.Input.origin c.args.cursor.now.input)
      h.unread (g.met.T.Input.agrees c.args.cursor.now.input h.unread k.0)
      (sym c.in-None.is ∙ c.lending_offset.ensures h k),
  k,
)
