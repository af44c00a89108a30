use Rattle.std.proofs.Common.{◌≡◌, ◌==◌, ◌∙◌, Bool, true, false, sym, ap, subst, arith}
use Rattle.std.proofs.lemmas.Bool.Decides.{nat_tests}
use Rattle.granit_error.specs.OptionsView.{options_of}
use Rattle.granit_lexemes.specs.Here.{next_char}
use Rattle.granit_machine.specs.Gaps as spec
use Rattle.granit_cursor.specs.Reading.{GivesTo, coded}
use Rattle.granit_content.specs.Reads.{IsAt, seen, tail_view}
use Rattle.granit_content.proofs.GapLemmas.{gap_noted, gap_ready}
use Rattle.granit_refused.specs.Answered.{answered}
use Rattle.granit_content.proofs.gaps.gap.Goals as goal

pub returns-then-peek-eq35-clause-here : goal.returns-then-peek-eq35-clause-here
returns-then-peek-eq35-clause-here g c = λ h k.
    let o = options_of c.args.options.now in
    let l = c.args.layouts.now in
    let may = c.takes_prefix-may_prefix.result in
    let now = spec.past_gap may h in
    let begins = c.past_gap_here-moved.ensures.here h k in
    let looked = begins.0 in
    let found : c.peek.result ≡ next_char now = c.peek.ensures.value now.unread (rw c.input.ensures looked.0) in
    let hash : (next_char now == 0x23) ≡ true = grind (arith, nat_tests, found, c.if-peek-eq35.true) in
    let is : spec.gap o h l ≡ spec.noted_gap now l =
    ap (λ (m : Bool). spec.gap_ends o (spec.begins_gap m h) (spec.past_gap m h) l)
    (sym c.takes_prefix-may_prefix.ensures) ∙ gap_noted o (spec.begins_gap may h) now l hash in
    subst (λ (r : spec.GapRead). GivesTo tail_view (answered c.noted_gap.new.fault c.noted_gap.result)
    (IsAt g.T.Input.unread c.noted_gap.new.at c.noted_gap.new.layouts) (coded (seen o.emit_comments) r)) (sym is)
    (c.noted_gap.ensures.here now looked)

pub returns-clause-here : goal.returns-clause-here
returns-clause-here g c = λ h k.
    let o = options_of c.args.options.now in
    let l = c.args.layouts.now in
    let may = c.takes_prefix-may_prefix.result in
    let now = spec.past_gap may h in
    let begins = c.past_gap_here-moved.ensures.here h k in
    let looked = begins.0 in
    let found : c.peek.result ≡ next_char now = c.peek.ensures.value now.unread (rw c.input.ensures looked.0) in
    let hash : (next_char now == 0x23) ≡ false = grind (arith, nat_tests, found, c.if-peek-eq35.false) in
    let is : spec.gap o h l ≡ spec.ready_gap o c.past_gap_here-moved.result now l =
    ap (λ (m : Bool). spec.gap_ends o (spec.begins_gap m h) (spec.past_gap m h) l)
    (sym c.takes_prefix-may_prefix.ensures) ∙ ap (λ (b : Bool). spec.gap_ends o b now l) (sym begins.1)
    ∙ gap_ready o c.past_gap_here-moved.result now l hash in
    subst (λ (r : spec.GapRead). GivesTo tail_view (answered c.ready_gap.new.fault c.ready_gap.result)
    (IsAt g.T.Input.unread c.past_gap_here-moved.new.at c.ready_gap.new.layouts)
    (coded (seen o.emit_comments) r)) (sym is) (c.ready_gap.ensures.here now looked)
