use Rattle.std.proofs.Common.{◌≡◌, ℕ, max, sym, ap, ◌∙◌, subst, arith}
use Rattle.granit_base.specs.Place.{Mark}
use Rattle.granit_base.specs.Written.{string_chars}
use Rattle.granit_input.proofs.OriginLemmas.{goes_on}
use Rattle.granit_block.proofs.SpaceLemmas.{LeadingSo, leading_goes, leading_ends, none_left}
use Rattle.granit_block.proofs.spaces.past_leading_lines.Goals as goal

pub lines-preserved : goal.lines-preserved
lines-preserved g c =
    let kept = c.lines.invariant.moves in
    record {
      told = λ h k.
          let told = c.lines.invariant.told h k in
          let given = c.in_ok-width.ensures.here told.0 told.1 in
          let turn = rw c.in-Some.is at given in (
            turn.0,
            turn.1,
            subst (λ (w : ℕ). LeadingSo (string_chars c.args.empty.now) (string_chars c.take_leading_line.new.empty) w h
                turn.0) (sym c.greater-widest.ensures)
                (leading_goes (string_chars c.args.empty.now) (string_chars c.lines.empty)
                (string_chars c.take_leading_line.new.empty) c.lines.widest c.in-Some.width h told.0 turn.0 told.2
                turn.2 turn.3),
          );
      moves = (
        omega (arith, kept.0, c.in_ok-width.ensures.moves.0),
        goes_on _ _ _ kept.1
            c.in_ok-width.ensures.moves.1,
        λ start before. c.in_ok-width.ensures.moves.2 start (kept.2 start before),
      );
    }

pub returns-clause-here : goal.returns-clause-here
returns-clause-here g c = λ h k.
    let told = c.lines.invariant.told h k in
    let given = c.in_ok-width.ensures.here told.0 told.1 in
    let none = none_left c.in_ok-width.field-0 c.in_default.not-Some in
    let turn = rw none at given in
    let col : c.col.result ≡ turn.0.place.column = c.col.ensures
    ∙ ap (λ (m : Mark). m.place.column) (c.mark.ensures.here turn.0 turn.1) in
    let ends = leading_ends (string_chars c.args.empty.now) (string_chars c.lines.empty) c.lines.widest h told.0 turn.0
    told.2 turn.2 in
    (turn.0, ends.0, turn.1, ends.1, c.greater.ensures ∙ ap (max c.lines.widest) col ∙ ends.2, turn.3 ∙ ends.3)
