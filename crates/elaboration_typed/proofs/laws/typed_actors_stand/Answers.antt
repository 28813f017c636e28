use Rattle.elaboration_typed.proofs.Standing.{actors_stand}
use Rattle.elaboration_typed.proofs.laws.typed_actors_stand.Goals as goal

pub returns : goal.returns
returns c = actors_stand
