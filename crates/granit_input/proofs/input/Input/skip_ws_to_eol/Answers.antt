use Rattle.std.proofs.Common.{◌≡◌, ◌<◌, ℕ, drop, subst, sym, ap, ◌∙◌, ◌-◌, ◌^◌, refl, arith}
use Rattle.granit_base.specs.Classes.{is_non_breakz}
use Rattle.granit_base.specs.Place.{first}
use Rattle.granit_runs.specs.Unread.{past_count}
use Rattle.granit_runs.specs.Runs.{run_length, starts}
use Rattle.granit_runs.specs.White.{comment_length}
use Rattle.granit_runs.proofs.RunLemmas.{front_all}
use Rattle.granit_input.proofs.UnreadLemmas.{past_text, past_twice}
use Rattle.granit_runs.proofs.WhiteLemmas.{white_without, white_refused, white_comment}
use Rattle.granit_input.proofs.input.Input.skip_ws_to_eol.Goals as goal

pub returns-then-c-ne35-clause-skips : goal.returns-then-c-ne35-clause-skips
returns-then-c-ne35-clause-skips g c = λ u k.
    let blanks = c.skip_ws_to_eol_blanks-blanks.ensures.skips u k in
    let n = c.skip_ws_to_eol_blanks-blanks.result.0 in
    let look = c.look_ch-c.ensures.look (past_count n u) blanks.2 in
    let seen : c.look_ch-c.result ≡ first (drop n u.text) = look.1 ∙ ap first (past_text n u) in
    let none = white_without n u.text (λ e. c.if-c-ne35.true (seen ∙ e)) in
    (rw (← blanks.0, none, blanks.1) refl, look.0)

pub returns-then-blanks-eq0-clause-skips : goal.returns-then-blanks-eq0-clause-skips
returns-then-blanks-eq0-clause-skips g c = λ u k.
    let blanks = c.skip_ws_to_eol_blanks-blanks.ensures.skips u k in
    let n = c.skip_ws_to_eol_blanks-blanks.result.0 in
    let look = c.look_ch-c.ensures.look (past_count n u) blanks.2 in
    let seen : c.look_ch-c.result ≡ first (drop n u.text) = look.1 ∙ ap first (past_text n u) in
    let refused = white_refused n u.text (sym seen ∙ c.if-c-ne35.false) c.if-blanks-eq0.true in (
      rw (← blanks.0, refused) refl,
      subst (λ (m : ℕ). g.Self.Input.unread c.look_ch-c.new.self (past_count m u))
          c.if-blanks-eq0.true look.0,
    )

pub returns-clause-skips : goal.returns-clause-skips
returns-clause-skips g c = λ u k.
    let blanks = c.skip_ws_to_eol_blanks-blanks.ensures.skips u k in
    let n = c.skip_ws_to_eol_blanks-blanks.result.0 in
    let look = c.look_ch-c.ensures.look (past_count n u) blanks.2 in
    let seen : c.look_ch-c.result ≡ first (drop n u.text) = look.1 ∙ ap first (past_text n u) in
    let comment = c.skip_run-comment.ensures.skips (past_count n u) look.0 in
    let m = c.skip_run-comment.result.1 in
    let short = g.met.Self.Input.short c.look_ch-c.new.self in
    let few : m < 2 ^ 64 - 1 = omega (arith, c.skip_run-comment.ensures.moves.0, short) in
    let whole = front_all (starts is_non_breakz) (past_count n u).text _ _ m comment.0 few in
    let count : m ≡ comment_length n u.text = whole ∙ ap (run_length (starts is_non_breakz)) (past_text n u) in
    let answer = white_comment n u.text (sym seen ∙ c.if-c-ne35.false) c.if-blanks-eq0.false in (
      rw (← blanks.0, answer, blanks.1, count) refl,
      subst (g.Self.Input.unread c.skip_run-comment.new.self)
          (past_twice n m u) comment.1,
    )
