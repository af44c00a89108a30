-- Each example is a computation.
use Rattle.std.proofs.Common.{refl}
use lib.Utf8.{encode}
use Rattle.std.specs.Fmt.{digits}
use Rattle.granit_base.specs.Classes.{is_word_char, is_digit, is_anchor_char, is_yaml_non_space, is_yaml_non_break}
use Rattle.granit_base.specs.Classes.{is_printable, is_break, is_blank, is_flow, is_bom}
use Rattle.granit_model.specs.FlowText.{upper_digit, tag_byte, quoted_character}
use Rattle.granit_lexemes.specs.Line.{event_line, quoted_char}
use Rattle.granit_model.proofs.FittingLemmas.{told_documents}
use Rattle.granit_model.specs.WorkedTrees.{names_tree}
use Rattle.granit_canonical.proofs.examples.canonical_examples.Goals as goal

pub returns-clause-nothing : goal.returns-clause-nothing
unfolding event_line digits encode
returns-clause-nothing c = refl

pub returns-clause-pairs_text : goal.returns-clause-pairs_text
unfolding upper_digit quoted_character
returns-clause-pairs_text c = refl

pub returns-clause-pairs : goal.returns-clause-pairs
unfolding upper_digit quoted_character event_line quoted_char digits encode
returns-clause-pairs c = refl

pub returns-clause-documents_text : goal.returns-clause-documents_text
unfolding upper_digit quoted_character
returns-clause-documents_text c = refl

pub returns-clause-documents : goal.returns-clause-documents
unfolding upper_digit quoted_character event_line quoted_char digits encode
returns-clause-documents c = refl

pub returns-clause-worked_text : goal.returns-clause-worked_text
unfolding upper_digit tag_byte is_word_char is_digit quoted_character encode
returns-clause-worked_text c = refl

pub returns-clause-worked : goal.returns-clause-worked
unfolding upper_digit tag_byte is_word_char is_digit quoted_character event_line quoted_char digits encode
returns-clause-worked c = refl

pub returns-clause-names_text : goal.returns-clause-names_text
unfolding upper_digit tag_byte is_word_char is_digit quoted_character encode
returns-clause-names_text c = refl

pub returns-clause-names : goal.returns-clause-names
unfolding upper_digit tag_byte is_word_char is_digit quoted_character event_line quoted_char digits encode
returns-clause-names c = refl

pub returns-clause-anchors : goal.returns-clause-anchors
unfolding upper_digit tag_byte is_word_char is_digit quoted_character event_line quoted_char digits encode
returns-clause-anchors c = refl

pub returns-clause-can_be_met : goal.returns-clause-can_be_met
unfolding is_anchor_char is_yaml_non_space is_yaml_non_break is_printable is_break is_blank is_flow is_bom
returns-clause-can_be_met c = (
  told_documents names_tree refl,
  (
    (tt, ((tt, refl), ((((tt, refl), ((refl, refl), refl)), refl), ((tt, refl), (tt, refl, ((refl, tt), tt)))))),
    ((tt, refl), (((tt, ((tt, refl), refl)), refl), refl)),
  ),
  refl,
)
