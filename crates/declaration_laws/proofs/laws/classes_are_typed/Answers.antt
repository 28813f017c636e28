use Rattle.declaration_laws.proofs.Classes.{classes_are_typed}
use Rattle.declaration_laws.proofs.laws.classes_are_typed.Goals as goal

pub returns : goal.returns
returns c = classes_are_typed
