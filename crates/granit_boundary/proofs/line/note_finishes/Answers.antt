use Rattle.std.proofs.Common.{◌≡◌, sym, ap, ◌∙◌, arith}
use Rattle.granit_boundary.proofs.PassLemmas.{note_ends, note_goes, note_stops, within_both, within_line}
use Rattle.granit_input.proofs.OriginLemmas.{goes_on}
use Rattle.granit_lexemes.specs.Comment.{is_line_char}
use Rattle.granit_lexemes.specs.Here.{next_char, step}
use Rattle.granit_boundary.proofs.line.note_finishes.Goals as goal

pub returns-then-line_ends-clause-here : goal.returns-then-line_ends-clause-here
returns-then-line_ends-clause-here g c = λ h k.
    let now = c.note.invariant.told h k in
    let ends = sym (c.line_ends.ensures.value now.0 now.1) ∙ c.if-line_ends.true in
    (now.0, sym now.2.0 ∙ note_ends now.0 ends, c.line_ends.ensures.here now.0 now.1)

pub returns-then-not-is_note-clause-here : goal.returns-then-not-is_note-clause-here
returns-then-not-is_note-clause-here g c = λ h k.
    let now = c.note.invariant.told h k in
    let there = c.line_ends.ensures.here now.0 now.1 in
    let ends = sym (c.line_ends.ensures.value now.0 now.1) ∙ c.if-line_ends.false in
    let front : c.peek.result ≡ next_char now.0 = c.peek.ensures.value now.0.unread (rw c.input.ensures there.0) in
    let note = ap is_line_char (sym front) ∙ sym c.is_note.ensures ∙ c.if-not-is_note.true in
    (sym now.2.0 ∙ note_stops now.0 ends note, (now.0, there, now.2.1))

pub note-preserved : goal.note-preserved
note-preserved g c =
    let kept = c.note.invariant.moves in
    record {
      told = λ h k.
          let now = c.note.invariant.told h k in
          let there = c.line_ends.ensures.here now.0 now.1 in
          let ends = sym (c.line_ends.ensures.value now.0 now.1) ∙ c.if-line_ends.false in
          let front : c.peek.result ≡ next_char now.0 = c.peek.ensures.value now.0.unread
          (rw c.input.ensures there.0) in
          let note = ap is_line_char (sym front) ∙ sym c.is_note.ensures ∙ c.if-not-is_note.false in (
            step now.0,
            c.step.ensures.here now.0 there,
            (note_goes now.0 ends note ∙ now.2.0, within_both h now.0 (step now.0) now.2.1 (within_line now.0 ends)),
          );
      moves = (
        omega (arith, kept.0, c.line_ends.ensures.moves.0, c.step.ensures.moves.0),
        goes_on _ _ _ kept.1 (goes_on _ _ _ c.line_ends.ensures.moves.1 c.step.ensures.moves.1),
        λ start before. c.step.ensures.moves.2 start (c.line_ends.ensures.moves.2 start (kept.2 start before)),
      );
    }
