use Rattle.scope_laws.proofs.Classes.{classes_are_objects}
use Rattle.scope_laws.proofs.laws.classes_are_objects.Goals as goal

pub returns : goal.returns
returns c = classes_are_objects
