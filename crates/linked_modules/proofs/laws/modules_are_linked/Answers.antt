use Rattle.linked_modules.proofs.Linking.{modules_linked}
use Rattle.linked_modules.proofs.laws.modules_are_linked.Goals as goal

pub returns : goal.returns
returns c = modules_linked
