use Rattle.std.proofs.Common.{subst}
use Rattle.granit_cursor.specs.Reading.{Stands}
use Rattle.granit_directives.proofs.WordLemmas.{blanks_counted, blanks_reached}
use Rattle.granit_directives.proofs.words.count_blanks.Goals as goal
use Rattle.granit_lexemes.specs.Here.{Here}

pub returns-clause-here : goal.returns-clause-here
returns-clause-here g c = λ h k.
    let run = c.skip_while_blank.ensures.here h k in
    let n = c.skip_while_blank.result in (
      blanks_counted n h run.0,
      subst (λ (now : Here). Stands g.T.Input.unread c.skip_while_blank.new.self now)
          (blanks_reached n h run.0) run.1,
    )
