use Rattle.std.proofs.Common.{◌≡◌, ◌==◌, true, false, sym, subst, Result, Option, arith}
use Rattle.std.proofs.lemmas.Bool.Decides.{nat_tests}
use Rattle.granit_base.specs.Classes.{is_blank}
use Rattle.granit_lexemes.specs.Here.{Here, next_char, past}
use Rattle.granit_lexemes.specs.Outcome.{Fault}
use Rattle.granit_cursor.specs.Reading.{Stands, GivesTo}
use Rattle.granit_cursor.specs.Tokens.{layout_data}
use Rattle.granit_cursor.specs.declared.token.Token.{Token}
use Rattle.granit_block.proofs.HeadLemmas.{no_note, note_touches, note_stands}
use Rattle.granit_block.proofs.LineLemmas.{run_lands}
use Rattle.granit_block.proofs.header.read_tail.Goals as goal

pub returns-then-peek-ne35-clause-here : goal.returns-then-peek-ne35-clause-here
returns-then-peek-ne35-clause-here g c = λ h k.
    let at = layout_data c.args.at.now in
    let run = c.skip_while_blank-blanks.ensures.here h k in
    let n = c.skip_while_blank-blanks.result in
    let now = past is_blank h in
    let stands = subst (λ (i : Here). Stands g.T.Input.unread c.skip_while_blank-blanks.new.self i)
    (run_lands is_blank n h run.0) run.1 in
    let looked = c.look.ensures.here now stands in
    let seen : c.peek.result ≡ next_char now = c.peek.ensures.value now.unread (rw c.input.ensures looked.0) in
    let y : (next_char now == 0x23) ≡ false = grind (arith, nat_tests, seen, c.if-peek-ne35.true) in
    (now, looked, no_note at n h run.0 y)

pub returns-then-blanks-eq0-clause-here : goal.returns-then-blanks-eq0-clause-here
returns-then-blanks-eq0-clause-here g c = λ h k.
    let at = layout_data c.args.at.now in
    let run = c.skip_while_blank-blanks.ensures.here h k in
    let n = c.skip_while_blank-blanks.result in
    let now = past is_blank h in
    let stands = subst (λ (i : Here). Stands g.T.Input.unread c.skip_while_blank-blanks.new.self i)
    (run_lands is_blank n h run.0) run.1 in
    let looked = c.look.ensures.here now stands in
    let seen : c.peek.result ≡ next_char now = c.peek.ensures.value now.unread (rw c.input.ensures looked.0) in
    let y : (next_char now == 0x23) ≡ true = grind (arith, nat_tests, seen, c.if-peek-ne35.false) in
    let e : (n == 0) ≡ true = grind (arith, nat_tests, c.if-blanks-eq0.true) in
    λ other. rw (c.from_kind.ensures, c.mark.ensures.here now looked) (note_touches at n h run.0 y e)

pub returns-clause-here : goal.returns-clause-here
returns-clause-here g c = λ h k.
    let at = layout_data c.args.at.now in
    let run = c.skip_while_blank-blanks.ensures.here h k in
    let n = c.skip_while_blank-blanks.result in
    let now = past is_blank h in
    let stands = subst (λ (i : Here). Stands g.T.Input.unread c.skip_while_blank-blanks.new.self i)
    (run_lands is_blank n h run.0) run.1 in
    let looked = c.look.ensures.here now stands in
    let seen : c.peek.result ≡ next_char now = c.peek.ensures.value now.unread (rw c.input.ensures looked.0) in
    let y : (next_char now == 0x23) ≡ true = grind (arith, nat_tests, seen, c.if-peek-ne35.false) in
    let e : (n == 0) ≡ false = grind (arith, nat_tests, c.if-blanks-eq0.false) in
    subst (λ (r : Result (Option Token × Here) Fault). GivesTo (λ t. t) c.read_note.result
    (Stands g.T.Input.unread c.read_note.new.cursor) r) (sym (note_stands at n h run.0 y e))
    (c.read_note.ensures.here now looked)
