use Rattle.refinement_examples.proofs.Growing.{growing_module_refines}
use Rattle.refinement_examples.proofs.laws.growing_modules_refine.Goals as goal

pub returns : goal.returns
returns c = growing_module_refines
