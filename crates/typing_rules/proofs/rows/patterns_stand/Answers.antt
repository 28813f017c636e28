use Rattle.typing_rules.proofs.RowsAnswered.{pattern_answered}
use Rattle.typing_rules.proofs.rows.patterns_stand.Goals as goal

pub returns : goal.returns
returns c = pattern_answered
