use Rattle.typing_rules.proofs.RowsAnswered.{written_type_first_answered, written_type_second_answered}
use Rattle.typing_rules.proofs.rows.written_types_are_right.Goals as goal

pub returns-clause-first : goal.returns-clause-first
returns-clause-first c = written_type_first_answered

pub returns-clause-second : goal.returns-clause-second
returns-clause-second c = written_type_second_answered
