use Rattle.std.proofs.Common.{◌≡◌, sym, ap, ◌∙◌, arith}
use Rattle.granit_base.specs.Classes.{is_blank}
use Rattle.granit_boundary.proofs.PassLemmas.{blank_goes, finishes_behind, hash_goes, line_finished, other_stops}
use Rattle.granit_boundary.proofs.PassLemmas.{within_both, within_line}
use Rattle.granit_cursor.specs.Reading.{Stands}
use Rattle.granit_input.proofs.OriginLemmas.{goes_on}
use Rattle.granit_lexemes.specs.Here.{next_char, step}
use Rattle.granit_boundary.proofs.line.line_finishes.Goals as goal

pub returns-then-line_ends-clause-here : goal.returns-then-line_ends-clause-here
returns-then-line_ends-clause-here g c = λ h k.
    let now = c.blanks.invariant.told h k in
    let ends = sym (c.line_ends.ensures.value now.0 now.1) ∙ c.if-line_ends.true in
    (now.0, sym now.2.0 ∙ line_finished now.0 ends, c.line_ends.ensures.here now.0 now.1)

pub returns-then-c-eq35-clause-here : goal.returns-then-c-eq35-clause-here
returns-then-c-eq35-clause-here g c = λ h k.
    let now = c.blanks.invariant.told h k in
    let there = c.line_ends.ensures.here now.0 now.1 in
    let ends = sym (c.line_ends.ensures.value now.0 now.1) ∙ c.if-line_ends.false in
    let front : c.peek-c.result ≡ next_char now.0 = c.peek-c.ensures.value now.0.unread (rw c.input.ensures there.0) in
    finishes_behind (Stands g.T.Input.unread c.note_finishes.new.cursor) c.note_finishes.result h (step now.0)
    (hash_goes now.0 ends (sym front ∙ c.if-c-eq35.true) ∙ now.2.0)
    (within_both h now.0 (step now.0) now.2.1 (within_line now.0 ends))
    (c.note_finishes.ensures.here (step now.0) (c.step.ensures.here now.0 there))

pub returns-then-not-is_blank-clause-here : goal.returns-then-not-is_blank-clause-here
returns-then-not-is_blank-clause-here g c = λ h k.
    let now = c.blanks.invariant.told h k in
    let there = c.line_ends.ensures.here now.0 now.1 in
    let ends = sym (c.line_ends.ensures.value now.0 now.1) ∙ c.if-line_ends.false in
    let front : c.peek-c.result ≡ next_char now.0 = c.peek-c.ensures.value now.0.unread (rw c.input.ensures there.0) in
    let blank = ap is_blank (sym front) ∙ sym c.is_blank.ensures ∙ c.if-not-is_blank.true in
    (sym now.2.0 ∙ other_stops now.0 ends blank (λ hash. c.if-c-eq35.false (front ∙ hash)), (now.0, there, now.2.1))

pub blanks-preserved : goal.blanks-preserved
blanks-preserved g c =
    let kept = c.blanks.invariant.moves in
    record {
      told = λ h k.
          let now = c.blanks.invariant.told h k in
          let there = c.line_ends.ensures.here now.0 now.1 in
          let ends = sym (c.line_ends.ensures.value now.0 now.1) ∙ c.if-line_ends.false in
          let front : c.peek-c.result ≡ next_char now.0 = c.peek-c.ensures.value now.0.unread
          (rw c.input.ensures there.0) in
          let blank = ap is_blank (sym front) ∙ sym c.is_blank.ensures ∙ c.if-not-is_blank.false in (
            step now.0,
            c.step-in-blanks.ensures.here now.0 there,
            (blank_goes now.0 ends blank ∙ now.2.0, within_both h now.0 (step now.0) now.2.1 (within_line now.0 ends)),
          );
      moves = (
        omega (arith, kept.0, c.line_ends.ensures.moves.0, c.step-in-blanks.ensures.moves.0),
        goes_on _ _ _ kept.1 (goes_on _ _ _ c.line_ends.ensures.moves.1 c.step-in-blanks.ensures.moves.1),
        λ start before.
            c.step-in-blanks.ensures.moves.2 start (c.line_ends.ensures.moves.2 start (kept.2 start before)),
      );
    }
