use Rattle.refinement_examples.proofs.Waiting.{waiting_module_refines}
use Rattle.refinement_examples.proofs.laws.waiting_modules_refine.Goals as goal

pub returns : goal.returns
returns c = waiting_module_refines
