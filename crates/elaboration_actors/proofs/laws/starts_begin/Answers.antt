use Rattle.elaboration_actors.proofs.Starts.{starts_begin}
use Rattle.elaboration_actors.proofs.laws.starts_begin.Goals as goal

pub returns : goal.returns
returns c = starts_begin
