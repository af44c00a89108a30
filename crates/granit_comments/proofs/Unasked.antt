-- Where comments aren't asked for, the answer is the same without them.
use Rattle.std.proofs.Common.{Bool, List, Ok, ap, false, refl, sym, true, ℕ, ◌∙◌, ◌≡◌}
use Rattle.granit_answers.proofs.Answered.{bare_run, one_answer}
use Rattle.granit_answers.proofs.Asked.{asked_run, bare_of, bare_silent}
use Rattle.granit_comments.specs.TextComments.{ToldUnasked}
use Rattle.granit_error.specs.OptionsData.{OptionsData}
use Rattle.granit_quiet.proofs.CommentLaws.{run_same}
use Rattle.granit_quiet.specs.Quiet.{asking, but_comments}
use Rattle.granit_lexemes.specs.Here.{start_of}
use Rattle.granit_lexemes.specs.PlainEvent.{PlainEvent}
use Rattle.granit_machine.specs.Machine.{run}

told_by : (o : OptionsData) (x : List ℕ) (es : List PlainEvent) → run o x ≡ Ok es → (v : Bool) → o.emit_comments ≡ v
    → ToldUnasked o x es
told_by o x es r true on = run_same false o (start_of x) ∙ bare_of o x es (sym (asked_run o x on) ∙ r)
told_by o x es r false off =
    let bare = sym (bare_run o x off) ∙ r in
    run_same false o (start_of x) ∙ bare ∙ ap (λ (es : List PlainEvent). Ok es) (sym (bare_silent o x es bare))

pub told_unasked : (o : OptionsData) (x : List ℕ) (es : List PlainEvent) → run o x ≡ Ok es → ToldUnasked o x es
told_unasked o x es r = told_by o x es r o.emit_comments refl

pub both_answered : (o : OptionsData) (x : List ℕ) (es ds : List PlainEvent) → run o x ≡ Ok es
    → run (asking false o) x ≡ Ok ds → ds ≡ but_comments es
both_answered o x es ds r s = one_answer (run (asking false o) x) ds (but_comments es) s (told_unasked o x es r)
