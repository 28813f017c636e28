use Rattle.source_laws.proofs.Numbers.{definitions_are_gathered}
use Rattle.source_laws.proofs.laws.definitions_are_gathered.Goals as goal

pub returns : goal.returns
returns c = definitions_are_gathered
