use Rattle.declaration_laws.proofs.Facts.{values_are_facts}
use Rattle.declaration_laws.proofs.laws.values_are_facts.Goals as goal

pub returns : goal.returns
returns c = values_are_facts
