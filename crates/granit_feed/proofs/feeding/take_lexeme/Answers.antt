use Rattle.std.proofs.Common.{◌≡◌, ◌<◌, ◌-◌, ◌^◌, true, false, sym, subst, ◌∙◌}
use Rattle.std.specs.Prelude.{IsSome}
use Rattle.granit_error.specs.OptionsView.{options_of}
use Rattle.granit_machine.specs.Entries.{lookup_text}
use Rattle.granit_machine.specs.Frames.{ParserState}
use Rattle.granit_refused.specs.Answered.{answered}
use Rattle.granit_sorts.specs.SortViews.{machine_token}
use Rattle.granit_feed.proofs.AtOnceLemmas.{token_refuses}
use Rattle.granit_feed.proofs.TokenGiving.{alone_wants, token_wants}
use Rattle.granit_feed.proofs.feeding.take_lexeme.Goals as goal

pub returns-then-takes_tail-clause-by_fault : goal.returns-then-takes_tail-clause-by_fault
returns-then-takes_tail-clause-by_fault c = λ at_once.
    let taken = rw c.deref.ensures at c.takes_tail.ensures in
    let both : true ≡ false = sym c.if-takes_tail.true ∙ taken ∙ at_once.tailless in
    absurd (cc both)

pub returns-in_err-close-clause-by_fault : goal.returns-in_err-close-clause-by_fault
returns-in_err-close-clause-by_fault c = λ at_once. absurd (cc (c.in_err-close.ensures.memory at_once.stays))

pub returns-clause-by_fault : goal.returns-clause-by_fault
returns-clause-by_fault c = λ at_once.
    token_refuses (options_of c.args.options.now) (machine_token c.args.token.now) c.args.next_line
    c.args.state.now at_once c.close.new.self (answered c.take_token.new.fault c.take_token.result)
    c.in_ok-close.ensures.leaves c.take_token.ensures.by_fault

pub returns-clause-eventless : goal.returns-clause-eventless
returns-clause-eventless c = λ takes.
    token_wants (options_of c.args.options.now) (machine_token c.args.token.now) c.args.next_line
    c.args.state.now takes c.close.new.self (answered c.take_token.new.fault c.take_token.result)
    c.in_ok-close.ensures.leaves c.take_token.ensures.eventless

pub returns-clause-again : goal.returns-clause-again
returns-clause-again c = λ alone name anchor lent left known.
    alone_wants (options_of c.args.options.now) (machine_token c.args.token.now) c.args.next_line
    c.args.state.now alone c.close.new.self (answered c.take_token.new.fault c.take_token.result)
    c.in_ok-close.ensures.leaves (λ same. c.take_token.ensures.again name anchor lent
    (subst (λ (s : ParserState). s.count < 2 ^ 64 - 1) (sym same) left)
    (subst (λ (s : ParserState). IsSome (lookup_text name.characters s.names)) (sym same) known))
