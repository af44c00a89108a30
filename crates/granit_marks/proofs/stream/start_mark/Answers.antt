use Rattle.std.proofs.Common.{refl}
use Rattle.granit_lexemes.specs.Here.{mark_of}
use Rattle.granit_lexemes.specs.Lexeme.{DocumentStart}
use Rattle.granit_lexemes.specs.Moves.{steps}
use Rattle.granit_machine.specs.ReaderState.{lexeme_to}
use Rattle.granit_content.proofs.ItemLemmas.{read_untailed}
use Rattle.granit_marks.proofs.stream.start_mark.Goals as goal

pub returns-clause-here : goal.returns-clause-here
returns-clause-here g c = λ h k.
    let on = c.past_mark.ensures.here h k in
    let lexeme = rw (c.mark.ensures.here (steps 3 h) on) at
    (c.write_lexeme.ensures h (c.start_of-start.ensures h k)) in (
      record { here = steps 3 h; laid = c.count_lexeme.new.self },
      (on, refl),
      rw (lexeme, c.count_lexeme.ensures, c.forget_key.ensures)
          (read_untailed c.args.asked (lexeme_to c.args.ends DocumentStart (mark_of (steps 3 h)) h c.args.layouts.now)
          (steps 3 h) _ refl),
    )
