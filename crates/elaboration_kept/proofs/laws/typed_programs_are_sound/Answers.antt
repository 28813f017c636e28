use Rattle.elaboration_kept.proofs.Premises.{actors_are_sound, saves_are_sound, starts_are_sound}
use Rattle.elaboration_kept.proofs.laws.typed_programs_are_sound.Goals as goal

pub returns-clause-events : goal.returns-clause-events
returns-clause-events c = actors_are_sound

pub returns-clause-starts : goal.returns-clause-starts
returns-clause-starts c = starts_are_sound

pub returns-clause-saves : goal.returns-clause-saves
returns-clause-saves c = saves_are_sound
