use Rattle.std.proofs.Common.{ℕ, Option, None, Some, sym, ap, subst, ◌∙◌}
use Rattle.std.specs.Str.{chars}
use Rattle.std.proofs.lemmas.Str.{chars-nil}
use Rattle.granit_base.specs.Place.{Mark, Unread}
use Rattle.granit_base.specs.Written.{string_chars}
use Rattle.granit_input.specs.Origin.{LentBetween}
use Rattle.granit_runs.specs.Runs.{starts, is_line_char}
use Rattle.granit_runs.specs.Unread.{past_count}
use Rattle.granit_lexemes.specs.Here.{mid_line}
use Rattle.granit_lexemes.specs.Moves.{steps}
use Rattle.granit_cursor.proofs.MoveLemmas.{char_line}
use Rattle.granit_cursor.proofs.SourceLemmas.{found_lends, not_found_lends, spelled_on, run_behind, lent_here}
use Rattle.granit_cursor.proofs.SourceLemmas.{lent_run, own_run}
use Rattle.granit_cursor.proofs.comments.comment_text.Goals as goal

pub returns-in-Ok-clause-here : goal.returns-in-Ok-clause-here
returns-in-Ok-clause-here g c = λ h k from.
    let now = c.skip_while_non_breakz.new.self.input in
    let taken = c.skip_while_non_breakz.ensures.here h k in
    let n = c.skip_while_non_breakz.result in
    let there = found_lends c.in-Some.start h.unread (sym c.in-Some.is ∙ from) in
    let on = spelled_on (g.T.Input.origin c.args.cursor.now.input) (g.T.Input.origin now)
    (g.T.Input.left c.args.cursor.now.input) h.unread c.skip_while_non_breakz.ensures.moves.1
    (g.met.T.Input.agrees c.args.cursor.now.input h.unread k.0) there.0 in
    let along = run_behind (starts is_line_char) n h char_line taken.0 in
    let end = ap (λ (m : Mark). m.byte_offset) (c.mark-end.ensures.here (mid_line (steps n h)) taken.1)
    ∙ ap (λ (u : Unread). u.offset) along in
    let lent = lent_here (g.T.Input.origin now) (g.T.Input.left now) h.unread n c.in-Some.start (Some c.in-Ok.text)
    on.0 on.1 there.1
    (g.met.T.Input.agrees now (past_count n h.unread) (subst (g.T.Input.unread now) along taken.1.0))
    (subst (λ (o : Option ℕ). LentBetween (g.T.Input.origin now).lent (Some c.in-Some.start) o (Some c.in-Ok.text)) end
    c.in-Ok.ensures) in
    (n, taken, c.borrowed.ensures ∙ lent_run h n _ there.0 lent.1)

pub returns-in-Err-clause-here : goal.returns-in-Err-clause-here
returns-in-Err-clause-here g c = λ h k from. absurd (
    let now = c.skip_while_non_breakz.new.self.input in
    let taken = c.skip_while_non_breakz.ensures.here h k in
    let n = c.skip_while_non_breakz.result in
    let there = found_lends c.in-Some.start h.unread (sym c.in-Some.is ∙ from) in
    let on = spelled_on (g.T.Input.origin c.args.cursor.now.input) (g.T.Input.origin now)
    (g.T.Input.left c.args.cursor.now.input) h.unread c.skip_while_non_breakz.ensures.moves.1
    (g.met.T.Input.agrees c.args.cursor.now.input h.unread k.0) there.0 in
    let along = run_behind (starts is_line_char) n h char_line taken.0 in
    let end = ap (λ (m : Mark). m.byte_offset) (c.mark-end.ensures.here (mid_line (steps n h)) taken.1)
    ∙ ap (λ (u : Unread). u.offset) along in
    let lent = lent_here (g.T.Input.origin now) (g.T.Input.left now) h.unread n c.in-Some.start None on.0 on.1 there.1
    (g.met.T.Input.agrees now (past_count n h.unread) (subst (g.T.Input.unread now) along taken.1.0))
    (subst (λ (o : Option ℕ). LentBetween (g.T.Input.origin now).lent (Some c.in-Some.start) o None) end
    c.in-Err.ensures.0) in
    let some = lent.0 in cc)

pub returns-in_ok-fetch_while_non_breakz-in-None-clause-here :
    goal.returns-in_ok-fetch_while_non_breakz-in-None-clause-here
returns-in_ok-fetch_while_non_breakz-in-None-clause-here g c = λ h k from.
    let taken = c.in_ok-fetch_while_non_breakz-in-None.ensures.here h k in
    let n = c.in_ok-fetch_while_non_breakz-in-None.field-0 in
    let none = not_found_lends (g.T.Input.left c.args.cursor.now.input) (g.T.Input.origin c.args.cursor.now.input)
    h.unread (g.met.T.Input.agrees c.args.cursor.now.input h.unread k.0) (sym c.in-None.is ∙ from) in (
      n,
      taken.0,
      c.owned.ensures ∙ own_run h n (string_chars c.new-text.result) _ none
          (ap chars c.new-text.ensures.bytes ∙ chars-nil) taken.1,
    )
