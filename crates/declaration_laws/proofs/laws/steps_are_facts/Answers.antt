use Rattle.declaration_laws.proofs.Facts.{steps_are_facts}
use Rattle.declaration_laws.proofs.laws.steps_are_facts.Goals as goal

pub returns : goal.returns
returns c = steps_are_facts
