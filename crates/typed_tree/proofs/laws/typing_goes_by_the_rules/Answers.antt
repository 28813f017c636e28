use Rattle.typed_tree.proofs.Rules as rules
use Rattle.typed_tree.proofs.laws.typing_goes_by_the_rules.Goals as goal

pub returns-clause-forms : goal.returns-clause-forms
returns-clause-forms c = rules.forms

pub returns-clause-steps : goal.returns-clause-steps
returns-clause-steps c = rules.steps

pub returns-clause-cases : goal.returns-clause-cases
returns-clause-cases c = rules.cases

pub returns-clause-functions : goal.returns-clause-functions
returns-clause-functions c = rules.functions

pub returns-clause-expressions : goal.returns-clause-expressions
returns-clause-expressions c = rules.expressions

pub returns-clause-pattern_forms : goal.returns-clause-pattern_forms
returns-clause-pattern_forms c = rules.pattern_forms

pub returns-clause-fields : goal.returns-clause-fields
returns-clause-fields c = rules.fields

pub returns-clause-patterns : goal.returns-clause-patterns
returns-clause-patterns c = rules.patterns
