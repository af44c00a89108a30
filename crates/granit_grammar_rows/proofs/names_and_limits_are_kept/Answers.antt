use Rattle.std.proofs.Common.{refl}
use Rattle.granit_grammar_rows.proofs.names_and_limits_are_kept.Goals as goal

pub returns-clause-unknown_name : goal.returns-clause-unknown_name
returns-clause-unknown_name c = refl

pub returns-clause-known_name : goal.returns-clause-known_name
returns-clause-known_name c = refl

pub returns-clause-other_name : goal.returns-clause-other_name
returns-clause-other_name c = refl

pub returns-clause-name_of_another_document : goal.returns-clause-name_of_another_document
returns-clause-name_of_another_document c = refl

pub returns-clause-unknown_handle : goal.returns-clause-unknown_handle
returns-clause-unknown_handle c = refl

pub returns-clause-handle_of_another_document : goal.returns-clause-handle_of_another_document
returns-clause-handle_of_another_document c = refl

pub returns-clause-second_version : goal.returns-clause-second_version
returns-clause-second_version c = refl

pub returns-clause-other_version : goal.returns-clause-other_version
returns-clause-other_version c = refl

pub returns-clause-one_too_many : goal.returns-clause-one_too_many
returns-clause-one_too_many c = refl

pub returns-clause-as_many_as_may_be : goal.returns-clause-as_many_as_may_be
returns-clause-as_many_as_may_be c = refl

pub returns-clause-name_behind_a_document_end : goal.returns-clause-name_behind_a_document_end
returns-clause-name_behind_a_document_end c = refl
