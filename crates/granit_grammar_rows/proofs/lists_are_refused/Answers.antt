use Rattle.std.proofs.Common.{refl}
use Rattle.granit_grammar_rows.proofs.lists_are_refused.Goals as goal

pub returns-clause-no_root_or_entry : goal.returns-clause-no_root_or_entry
returns-clause-no_root_or_entry c = refl

pub returns-clause-where_a_document_must_start : goal.returns-clause-where_a_document_must_start
returns-clause-where_a_document_must_start c = refl

pub returns-clause-no_key_or_value : goal.returns-clause-no_key_or_value
returns-clause-no_key_or_value c = refl

pub returns-clause-no_entry_of_a_sequence : goal.returns-clause-no_entry_of_a_sequence
returns-clause-no_entry_of_a_sequence c = refl

pub returns-clause-no_entry_of_a_mapping : goal.returns-clause-no_entry_of_a_mapping
returns-clause-no_entry_of_a_mapping c = refl

pub returns-clause-no_node_in_flow : goal.returns-clause-no_node_in_flow
returns-clause-no_node_in_flow c = refl

pub returns-clause-directives_without_document_end : goal.returns-clause-directives_without_document_end
returns-clause-directives_without_document_end c = refl

pub returns-clause-no_separator_in_a_sequence : goal.returns-clause-no_separator_in_a_sequence
returns-clause-no_separator_in_a_sequence c = refl

pub returns-clause-no_separator_in_a_mapping : goal.returns-clause-no_separator_in_a_mapping
returns-clause-no_separator_in_a_mapping c = refl
