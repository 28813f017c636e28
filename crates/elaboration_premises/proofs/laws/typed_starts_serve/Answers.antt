use Rattle.elaboration_premises.proofs.Starts.{starts_serve, saves_serve}
use Rattle.elaboration_premises.proofs.laws.typed_starts_serve.Goals as goal

pub returns-clause-starts : goal.returns-clause-starts
returns-clause-starts c = starts_serve

pub returns-clause-saves : goal.returns-clause-saves
returns-clause-saves c = saves_serve
