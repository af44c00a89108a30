use Rattle.std.proofs.Common.{refl, rules}
use Rattle.granit_events.specs.declared.input.Request.TheVariants as came
use Rattle.granit_events.specs.declared.status.Status.TheVariants as status
use Rattle.granit_events.proofs.RunLemmas.{cut_input}
use Rattle.granit_events.proofs.answering.respond.Goals as goal

pub returns-in_err-print_usage-in-WrongWord-clause-cut :
    goal.returns-in_err-print_usage-in-WrongWord-clause-cut
returns-in_err-print_usage-in-WrongWord-clause-cut g c =
    let w = cut_input c.args.input.now (came.WrongWord c.in-WrongWord.number) _ _ status.Usage _ c.in-WrongWord.is refl
    c.in_err-print_usage-in-WrongWord.ensures.front in
    search rules

pub returns-in_err-write_all-in-TooLong-clause-cut :
    goal.returns-in_err-write_all-in-TooLong-clause-cut
returns-in_err-write_all-in-TooLong-clause-cut g c =
    let w = cut_input c.args.input.now came.TooLong _ _ status.TooLong _ c.in-TooLong.is refl
    c.in_err-write_all-in-TooLong.ensures.front in
    search rules
