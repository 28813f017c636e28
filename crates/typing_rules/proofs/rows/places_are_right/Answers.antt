use Rattle.typing_rules.proofs.RowsAnswered.{place_first_answered, place_second_answered}
use Rattle.typing_rules.proofs.rows.places_are_right.Goals as goal

pub returns-clause-first : goal.returns-clause-first
returns-clause-first c = place_first_answered

pub returns-clause-second : goal.returns-clause-second
returns-clause-second c = place_second_answered
