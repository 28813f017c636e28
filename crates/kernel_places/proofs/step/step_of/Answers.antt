use Rattle.judged_parts.specs.Parts.{See}
use Rattle.kernel_places.proofs.Copied.{ok_with}
use Rattle.kernel_places.proofs.step.step_of.Goals as goal

pub returns-in-Some : goal.returns-in-Some
returns-in-Some c = λ (see : See). ok_with c.function_step.result _ _ _ (c.function_step.ensures see) (c.in_ok-defines.ensures see) (c.in-Some.ensures see)
