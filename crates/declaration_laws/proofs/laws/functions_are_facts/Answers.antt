use Rattle.declaration_laws.proofs.Facts.{functions_are_facts}
use Rattle.declaration_laws.proofs.laws.functions_are_facts.Goals as goal

pub returns : goal.returns
returns c = functions_are_facts
