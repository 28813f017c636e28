use Rattle.typing_rules.proofs.RowsAnswered.{shape_first_answered, shape_second_answered, shape_third_answered}
use Rattle.typing_rules.proofs.rows.values_have_forms.Goals as goal

pub returns-clause-first : goal.returns-clause-first
returns-clause-first c = shape_first_answered

pub returns-clause-second : goal.returns-clause-second
returns-clause-second c = shape_second_answered

pub returns-clause-third : goal.returns-clause-third
returns-clause-third c = shape_third_answered
