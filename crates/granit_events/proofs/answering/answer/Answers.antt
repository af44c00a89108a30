use Rattle.std.proofs.Common.{◌∙◌, rules}
use Rattle.granit_error.specs.OptionsView.{options_of}
use Rattle.granit_events.proofs.AnswerLemmas.{cut_not_utf8, whole_not_utf8}
use Rattle.granit_events.proofs.answering.answer.Goals as goal

pub returns-in_err-print_not_utf8-in-Err-clause-cut :
    goal.returns-in_err-print_not_utf8-in-Err-clause-cut
returns-in_err-print_not_utf8-in-Err-clause-cut g c =
    let w = cut_not_utf8 (options_of c.args.options) c.args.bytes.now _ _ c.valid_up_to.result c.in-Err.ensures.cases.0
    (c.valid_up_to.ensures ∙ c.in-Err.ensures.valid_len) c.in_err-print_not_utf8-in-Err.ensures.front in
    search rules

pub returns-in_ok-print_not_utf8-in-Err-clause-whole :
    goal.returns-in_ok-print_not_utf8-in-Err-clause-whole
returns-in_ok-print_not_utf8-in-Err-clause-whole g c =
    whole_not_utf8 (options_of c.args.options) c.args.bytes.now _ _ c.valid_up_to.result c.in-Err.ensures.cases.0
    (c.valid_up_to.ensures ∙ c.in-Err.ensures.valid_len) c.in_ok-print_not_utf8-in-Err.ensures.whole
