use Rattle.granit_language.specs.Scope.{no_scope}
use Rattle.granit_grammar.proofs.Declares.{count_is, named_by, not_named, in_force, not_in_force}
use Rattle.granit_grammar.proofs.Kept.{declared_ever, never_declared}
use Rattle.granit_grammar.proofs.Prefixed.{stands_for}
use Rattle.granit_grammar.proofs.scopes.the_scope_is_what_is_declared.Goals as goal

pub returns-clause-count : goal.returns-clause-count
returns-clause-count c = λ front. count_is front no_scope

pub returns-clause-named : goal.returns-clause-named
returns-clause-named c = named_by

pub returns-clause-not_named : goal.returns-clause-not_named
returns-clause-not_named c = not_named

pub returns-clause-in_force : goal.returns-clause-in_force
returns-clause-in_force c = in_force

pub returns-clause-not_in_force : goal.returns-clause-not_in_force
returns-clause-not_in_force c = not_in_force

pub returns-clause-ever : goal.returns-clause-ever
returns-clause-ever c = declared_ever

pub returns-clause-never : goal.returns-clause-never
returns-clause-never c = never_declared

pub returns-clause-prefixed : goal.returns-clause-prefixed
returns-clause-prefixed c = stands_for
