use Rattle.std.proofs.Common.{◌∙◌, subst, sym, Bool, arith}
use Rattle.granit_base.specs.Classes.{is_blank}
use Rattle.granit_input.proofs.OriginLemmas.{goes_on}
use Rattle.granit_lexemes.specs.Here.{Here, past}
use Rattle.granit_machine.specs.Gaps.{over_gap_char}
use Rattle.granit_cursor.specs.Reading.{Stands}
use Rattle.granit_content.specs.Reads.{OverGapChar}
use Rattle.granit_content.proofs.GapLemmas.{gap_goes, gap_stops, gap_behind_blanks}
use Rattle.granit_content.proofs.gaps.pass_by_turns.Goals as goal

pub gap-preserved : goal.gap-preserved
gap-preserved g c = record {
  told = λ h k.
      let x = c.gap.invariant.told h k in
      let blanks = past is_blank x.0 in
      let over = subst (λ (b : Bool). OverGapChar b (Stands g.T.Input.unread c.pass_blanks.new.at) c.args.may_prefix
      blanks) c.gap-test.true (c.pass_blanks.ensures.here x.0 x.1) in (
        over_gap_char c.args.may_prefix blanks,
        over.0,
        gap_goes c.args.may_prefix blanks over.1
            ∙ gap_behind_blanks c.args.may_prefix x.0 ∙ x.2,
      );
  moves = (
    omega arith,
    goes_on _ _ _ c.gap.invariant.moves.1 c.pass_blanks.ensures.moves.1,
    λ start before. c.pass_blanks.ensures.moves.2 start (c.gap.invariant.moves.2 start before),
  );
}

pub returns-clause-here : goal.returns-clause-here
returns-clause-here g c = λ h k.
    let x = c.gap.invariant.told h k in
    let blanks = past is_blank x.0 in
    let over = subst (λ (b : Bool). OverGapChar b (Stands g.T.Input.unread c.pass_blanks.new.at) c.args.may_prefix
    blanks) c.gap-test.false (c.pass_blanks.ensures.here x.0 x.1) in
    subst (λ (now : Here). Stands g.T.Input.unread c.pass_blanks.new.at now)
    (sym (gap_stops c.args.may_prefix blanks over.1) ∙ gap_behind_blanks c.args.may_prefix x.0 ∙ x.2) over.0
