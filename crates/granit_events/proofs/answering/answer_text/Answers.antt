use Rattle.std.proofs.Common.{◌∙◌, sym, rules}
use Rattle.granit_events.proofs.AnswerLemmas.{cut_done, cut_fault, cut_nothing, is_other, whole_done, whole_fault}
use Rattle.granit_events.proofs.Known.{keeps_itself}
use Rattle.granit_events.proofs.answering.answer_text.Goals as goal

pub returns-in_err-write_all-in-Ok-clause-cut : goal.returns-in_err-write_all-in-Ok-clause-cut
returns-in_err-write_all-in-Ok-clause-cut g c =
    let lines = c.in-Ok.ensures.value in
    let w = cut_done _ _ _ _ lines.0 c.utf8.text lines.1
    (rw (c.as_slice.ensures.value, lines.2) at c.in_err-write_all-in-Ok.ensures.front) in
    search rules

pub returns-in_ok-write_all-in-Ok-clause-whole : goal.returns-in_ok-write_all-in-Ok-clause-whole
returns-in_ok-write_all-in-Ok-clause-whole g c =
    let lines = c.in-Ok.ensures.value in
    whole_done _ _ _ _ lines.0 c.utf8.text lines.1
    (rw (c.as_slice.ensures.value, lines.2) at c.in_ok-write_all-in-Ok.ensures.whole)

pub returns-then-ran_out-clause-cut : goal.returns-then-ran_out-clause-cut
returns-then-ran_out-clause-cut g c = cut_nothing _ _ _ _ c.utf8.text (keeps_itself _)

pub returns-in_err-print_fault-in-Err-clause-cut :
    goal.returns-in_err-print_fault-in-Err-clause-cut
returns-in_err-print_fault-in-Err-clause-cut g c =
    let other = is_other c.in-Err.error.kind (sym c.ran_out.ensures ∙ c.if-ran_out.false) in
    let w = cut_fault _ _ _ _ c.in-Err.error c.utf8.text (c.in-Err.ensures.value other)
    c.in_err-print_fault-in-Err.ensures.front in
    search rules

pub returns-in_ok-print_fault-in-Err-clause-whole :
    goal.returns-in_ok-print_fault-in-Err-clause-whole
returns-in_ok-print_fault-in-Err-clause-whole g c =
    let other = is_other c.in-Err.error.kind (sym c.ran_out.ensures ∙ c.if-ran_out.false) in
    whole_fault _ _ _ _ c.in-Err.error c.utf8.text (c.in-Err.ensures.value other)
    c.in_ok-print_fault-in-Err.ensures.whole
