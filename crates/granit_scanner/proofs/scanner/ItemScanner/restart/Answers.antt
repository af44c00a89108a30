use Rattle.std.proofs.Common.{◌≡◌, ◌++◌, Bool, false, None, Some, sym, subst, ◌∙◌}
use Rattle.std.specs.Prelude.{IfOk}
use Rattle.granit_cursor.specs.Reading.{Stands}
use Rattle.granit_items.specs.ItemViews.{boxed_lexeme}
use Rattle.granit_restart.specs.Restart.{read_boundary}
use Rattle.granit_scanner.specs.Restarts.{Restarts, finds_start, front_items}
use Rattle.granit_scanner.proofs.RestartLemmas.{goes_by, text_tells}
use Rattle.granit_scanner.proofs.scanner.ItemScanner.restart.Goals as goal
use Rattle.granit_steps.specs.Steps.{StepState}

pub returns-in-Some-clause-known : goal.returns-in-Some-clause-known
returns-in-Some-clause-known g c = λ s h k number same.
    let unread = g.T.Input.unread in
    let stands = subst (λ r. Stands unread r.cursor h) (sym c.self.view_is) k in
    let here = c.look.ensures.here h stands in
    let counted = subst (λ r. r.laid.number ≡ s.reading.reader.laid.number) (sym c.self.view_is) number in
    let waits = subst (λ r. read_boundary h s.queue ≡ read_boundary h (front_items c.args.front ++ r.queue))
    (sym c.self.view_is) same in
    let is = goes_by h s (Some (boxed_lexeme c.in-Some.lexeme)) (waits ∙ sym (c.in-Some.ensures h here)) in
    subst (λ (x : Bool × StepState). IfOk c.restart_at.result (Restarts unread x c.restart_at.new.self)) (sym is)
    (c.restart_at.ensures.known s h here counted)

pub returns-in-None-clause-known : goal.returns-in-None-clause-known
returns-in-None-clause-known g c = λ s h k number same.
    let unread = g.T.Input.unread in
    let stands = subst (λ r. Stands unread r.cursor h) (sym c.self.view_is) k in
    let here = c.look.ensures.here h stands in
    let counted = subst (λ r. r.laid.number ≡ s.reading.reader.laid.number) (sym c.self.view_is) number in
    let waits = subst (λ r. read_boundary h s.queue ≡ read_boundary h (front_items c.args.front ++ r.queue))
    (sym c.self.view_is) same in
    let is = goes_by h s None (waits ∙ sym (c.in-None.ensures h here)) in
    subst (λ (x : Bool × StepState). IfOk c.restart_behind.result (Restarts unread x c.restart_behind.new.self))
    (sym is) (c.restart_behind.ensures.known s h here counted)

pub returns-in-None-clause-memory : goal.returns-in-None-clause-memory
returns-in-None-clause-memory g c = λ h k number free.
    let unread = g.T.Input.unread in
    let stands = subst (λ r. Stands unread r.cursor h) (sym c.self.view_is) k in
    let here = c.look.ensures.here h stands in
    let none = subst (λ r. finds_start h (front_items c.args.front ++ r.queue) ≡ false) (sym c.self.view_is) free in
    c.restart_behind.ensures.memory h here
    (text_tells h (front_items c.args.front ++ c.self.inside.queue) (c.in-None.ensures h here) none)
