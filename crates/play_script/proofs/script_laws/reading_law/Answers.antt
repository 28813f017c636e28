use Rattle.play_script.proofs.OneReading.{script_one}
use Rattle.play_script.proofs.script_laws.reading_law.Goals as goal

pub returns : goal.returns
returns c = script_one
