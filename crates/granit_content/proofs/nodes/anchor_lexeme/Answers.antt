use Rattle.std.proofs.Common.{refl}
use Rattle.granit_error.specs.OptionsView.{options_of}
use Rattle.granit_content.proofs.NodeLemmas.{anchor_items}
use Rattle.granit_content.proofs.nodes.anchor_lexeme.Goals as goal

pub returns-clause-here : goal.returns-clause-here
returns-clause-here g c = λ asked h k.
    let token = rw c.in_ok-token.ensures at (c.scan_anchor.ensures.here h k) in
    let lexeme = c.token_lexeme.ensures h token.0 (c.start_of-start.ensures h k) token.1 in (
      record { here = token.0; laid = c.count_lexeme.new.self },
      (token.1, refl),
      rw (lexeme, c.count_lexeme.ensures, c.last_of_property-last.ensures)
          (anchor_items asked c.args.ends h c.args.layouts.now c.in_ok-token.token token.0
          (options_of c.args.options.now) token.2),
    )
