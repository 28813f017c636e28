use Rattle.declaration_laws.proofs.Objects.{named_objects_are_typed}
use Rattle.declaration_laws.proofs.laws.named_objects_are_typed.Goals as goal

pub returns : goal.returns
returns c = named_objects_are_typed
