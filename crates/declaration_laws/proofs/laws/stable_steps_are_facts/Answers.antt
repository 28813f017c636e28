use Rattle.declaration_laws.proofs.Facts.{stable_steps_are_facts}
use Rattle.declaration_laws.proofs.laws.stable_steps_are_facts.Goals as goal

pub returns : goal.returns
returns c = stable_steps_are_facts
