use Rattle.std.proofs.Common.{◌∙◌, sym}
use Rattle.granit_items.specs.ItemViews.{boxed_lexeme}
use Rattle.granit_lexemes.specs.Lexeme.{OfLexeme}
use Rattle.granit_restart.specs.Restart.{read_boundary}
use Rattle.granit_scanner.proofs.RestartLemmas.{found_in, passed_in}
use Rattle.granit_scanner.proofs.restart.read_boundary.Goals as goal

pub returns-in-None-boundary_in : goal.returns-in-None-boundary_in
returns-in-None-boundary_in g c = λ h k.
    rw c.in-Some.is (c.queued_boundary-in-None-boundary_in.ensures h k
    ∙ sym (passed_in h (OfLexeme (boxed_lexeme c.in-Some.lexeme)) (read_boundary h c.args.queue.now)
    (sym (c.in-None-boundary_in.ensures h k))))

pub returns-in-Some-boundary_in : goal.returns-in-Some-boundary_in
returns-in-Some-boundary_in g c = λ h k.
    rw c.in-Some.is (sym (found_in h (OfLexeme (boxed_lexeme c.in-Some.lexeme))
    (boxed_lexeme c.in-Some-boundary_in.boundary) (read_boundary h c.args.queue.now)
    (sym (c.in-Some-boundary_in.ensures h k))))
