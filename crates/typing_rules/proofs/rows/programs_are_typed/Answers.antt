use Rattle.typing_rules.proofs.RowsAnswered.{typed_actors_answered, typed_control_answered, typed_functions_answered, typed_literals_answered, typed_patterns_answered}
use Rattle.typing_rules.proofs.rows.programs_are_typed.Goals as goal

pub returns-clause-literals : goal.returns-clause-literals
returns-clause-literals c = typed_literals_answered

pub returns-clause-control : goal.returns-clause-control
returns-clause-control c = typed_control_answered

pub returns-clause-functions : goal.returns-clause-functions
returns-clause-functions c = typed_functions_answered

pub returns-clause-patterns : goal.returns-clause-patterns
returns-clause-patterns c = typed_patterns_answered

pub returns-clause-actors : goal.returns-clause-actors
returns-clause-actors c = typed_actors_answered
