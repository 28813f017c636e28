use Rattle.elaboration_sound.proofs.Events.{actors_serve}
use Rattle.elaboration_sound.proofs.laws.typed_actors_serve.Goals as goal

pub returns : goal.returns
returns c = actors_serve
