use Rattle.refinement_examples.proofs.Calling.{calling_module_refines}
use Rattle.refinement_examples.proofs.laws.calling_modules_refine.Goals as goal

pub returns : goal.returns
returns c = calling_module_refines
