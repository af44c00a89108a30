use Rattle.std.proofs.Common.{Result, ap, ◌∙◌}
use Rattle.granit_lexemes.specs.Outcome.{Fault, ◌>>=◌}
use Rattle.granit_machine.specs.IndicatorLexemes.{keyed_given}
use Rattle.granit_machine.specs.Laid.{Laid}
use Rattle.granit_items.specs.ItemViews.{lexeme_view}
use Rattle.granit_signs.specs.IndicatorReads.{lexeme_with_key}
use Rattle.granit_signs.proofs.values.keyed_colon.Goals as goal

pub returns-clause-here : goal.returns-clause-here
returns-clause-here c = λ after.
    ap (λ (r : Result Laid Fault). r >>= keyed_given (lexeme_with_key c.args.key (lexeme_view c.args.found.now)) after)
    c.in_ok-enter_keyed.ensures.here
    ∙ c.keyed.ensures after
