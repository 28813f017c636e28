use Rattle.typing_rules.proofs.RowsAnswered.{mismatch_first_answered, mismatch_second_answered}
use Rattle.typing_rules.proofs.rows.types_fit.Goals as goal

pub returns-clause-first : goal.returns-clause-first
returns-clause-first c = mismatch_first_answered

pub returns-clause-second : goal.returns-clause-second
returns-clause-second c = mismatch_second_answered
