use Rattle.std.proofs.Common.{◌≡◌, Some}
use Rattle.granit_cursor.specs.Reading.{Stands, Moves}
use Rattle.granit_directives.proofs.reserved.read_parameters.Given as goal
use Rattle.granit_directives.specs.ReservedCode.{all_owned, parameters_whole}
use Rattle.granit_error.specs.OptionsView.{options_of}
use Rattle.granit_lexemes.specs.Directive.{parameter_turn, parameters_len}
use Rattle.granit_lexemes.specs.Here.{Here}
use Rattle.granit_lexemes.specs.Pieces.{pieces}
use Rattle.granit_properties.specs.UriCode.{budget_of}

abbrev pub invariant-parameters : goal.invariant-parameters
invariant-parameters g l = record {
  told : (h : Here) → Stands g.T.Input.unread l.fn.cursor h
      → (now : Here) × Stands g.T.Input.unread l.cursor now
      × (parameters_whole (options_of l.options) l.start l.parts now
      ≡ pieces parameters_len (parameter_turn (options_of l.options) l.start)
      (record { here = h; budget = budget_of (Some l.options.max_directive_bytes) l.fn.left; count = 0 }));
  owned : all_owned l.parts.list;
  moves : Moves g.T.Input.unread g.T.Input.left g.T.Input.origin l.fn.cursor l.cursor;
}

abbrev pub decreases-parameters : goal.decreases-parameters
decreases-parameters g l = g.T.Input.left l.cursor.input
