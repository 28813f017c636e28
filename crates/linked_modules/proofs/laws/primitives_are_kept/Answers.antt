use Rattle.linked_modules.proofs.Linking.{primitives_kept}
use Rattle.linked_modules.proofs.laws.primitives_are_kept.Goals as goal

pub returns : goal.returns
returns c = primitives_kept
