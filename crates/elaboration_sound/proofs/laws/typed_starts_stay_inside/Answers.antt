use Rattle.elaboration_sound.proofs.Starts.{saves_hold, starts_stay_inside}
use Rattle.elaboration_sound.proofs.laws.typed_starts_stay_inside.Goals as goal

pub returns-clause-starts : goal.returns-clause-starts
returns-clause-starts c = starts_stay_inside

pub returns-clause-saves : goal.returns-clause-saves
returns-clause-saves c = saves_hold
