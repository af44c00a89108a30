use Rattle.std.proofs.Common.{◌≡◌, [], ◌∷◌, false, true, sym, ap, subst, ◌∙◌}
use Rattle.granit_cursor.specs.Reading.{Stands}
use Rattle.granit_items.specs.ItemViews.{lexeme_view}
use Rattle.granit_lexemes.specs.Lexeme.{OfLexeme}
use Rattle.granit_lexemes.specs.Moves.{steps}
use Rattle.granit_machine.specs.Lexing.{FlaggedItem}
use Rattle.granit_restart.specs.Boundary.{next_boundary}
use Rattle.granit_restart.specs.Restart.{start_found}
use Rattle.granit_scanner.proofs.RestartLemmas.{begun_anew, no_start, same_anew, start_anew, start_is}
use Rattle.granit_scanner.proofs.scanner.ItemScanner.restart_behind.Goals as goal
use Rattle.granit_steps.specs.Steps.{unflagged}

pub returns-in_ok-put_front-in-Start-clause-known : goal.returns-in_ok-put_front-in-Start-clause-known
returns-in_ok-put_front-in-Start-clause-known g c = λ s h at number.
    let unread = g.T.Input.unread in
    let stands = subst (λ r. Stands unread r.cursor h) (sym c.self.view_is) at in
    let counted = subst (λ r. r.laid.number ≡ s.reading.reader.laid.number) (sym c.self.view_is) number in
    let n = c.put_front.new.self in
    let again = c.begin_anew.ensures in
    let begun = c.self-in-Start.view_is ∙ again in
    let put = c.in_ok-put_front-in-Start.ensures.front in
    let same = same_anew false c.self.inside.layouts s.reading.reader.laid counted in
    start_anew unread n s (Stands unread c.pass_to_boundary.new.cursor) c.in-Start.mark c.in-Start.begins_line
    (next_boundary h) (c.in-Start.ensures.here h stands) (λ k marked begins lands.
    let ends = c.mark-end.ensures.here (steps 3 k)
    (subst (λ r. Stands unread r.cursor (steps 3 k)) (sym begun) lands) in
    let is = c.write_lexeme.ensures k (sym marked, sym begins) in
    let front = ap (λ (i : FlaggedItem). i ∷ []) (start_is k s (lexeme_view c.write_lexeme.new.found)
    c.number-number.result c.mark-end.result c.self-in-Start.inside.layouts is ends
    (ap (λ r. r.laid) begun ∙ same) (c.number-number.ensures ∙ counted)) in
    begun_anew unread n false (unflagged (OfLexeme (start_found k s)) ∷ []) (steps 3 k) s true
    (subst (λ r. Stands unread r.cursor (steps 3 k)) (sym put)
    (subst (λ r. Stands unread r.cursor (steps 3 k)) (sym again) lands))
    (ap (λ r. r.laid) put ∙ ap (λ r. r.laid) again ∙ same) (ap (λ r. r.queue) put ∙ front)
    (ap (λ r. r.ended) put ∙ ap (λ r. r.ended) again) (ap (λ r. r.fault) put ∙ ap (λ r. r.fault) again))

pub returns-in_err-lexeme-in-Start-clause-memory : goal.returns-in_err-lexeme-in-Start-clause-memory
returns-in_err-lexeme-in-Start-clause-memory g c = λ h at none.
    let unread = g.T.Input.unread in
    let stands = subst (λ r. Stands unread r.cursor h) (sym c.self.view_is) at in
    absurd (no_start (Stands unread c.pass_to_boundary.new.cursor) c.in-Start.mark c.in-Start.begins_line
    (next_boundary h) (c.in-Start.ensures.here h stands) none)
