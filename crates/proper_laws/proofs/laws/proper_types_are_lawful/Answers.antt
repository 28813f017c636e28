use Rattle.proper_laws.proofs.Reached.{lawful_reached}
use Rattle.proper_laws.proofs.laws.proper_types_are_lawful.Goals as goal

pub returns : goal.returns
returns c = lawful_reached
