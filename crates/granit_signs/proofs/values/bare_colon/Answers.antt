use Rattle.std.proofs.Common.{Result, ap}
use Rattle.granit_lexemes.specs.Outcome.{Fault, ◌>>=◌}
use Rattle.granit_lexemes.specs.declared.layout.LastLexeme.{LastLexeme}
use Rattle.granit_machine.specs.Laid.{Laid}
use Rattle.granit_machine.specs.ReaderState.{given}
use Rattle.granit_items.specs.ItemViews.{lexeme_view}
use Rattle.granit_signs.proofs.values.bare_colon.Goals as goal

pub returns-clause-here : goal.returns-clause-here
returns-clause-here c = λ after.
    rw c.count_lexeme.ensures (ap (λ (r : Result (LastLexeme × Laid) Fault). r
    >>= λ e. given (lexeme_view c.args.found.now) e.0 after e.1) c.in_ok-last.ensures.here)
