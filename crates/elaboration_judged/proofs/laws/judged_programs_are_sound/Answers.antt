use Rattle.elaboration_judged.proofs.Programs.{judged_programs_are_sound, judged_programs_keep_apart}
use Rattle.elaboration_judged.proofs.laws.judged_programs_are_sound.Goals as goal

pub returns-clause-kept_apart : goal.returns-clause-kept_apart
returns-clause-kept_apart c = judged_programs_keep_apart

pub returns-clause-sound : goal.returns-clause-sound
returns-clause-sound c = judged_programs_are_sound
