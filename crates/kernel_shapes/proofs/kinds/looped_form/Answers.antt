use Rattle.std.proofs.Common.{◌∙◌, ap}
use Rattle.judged_parts.specs.Parts.{See}
use Rattle.kernel_shapes.specs.Kinds.{as_looped}
use Rattle.kernel_shapes.proofs.kinds.looped_form.Goals as goal

pub returns : goal.returns
returns c = λ (see : See). c.as_looped.ensures see ∙ ap as_looped (c.shape_of_form.ensures see)
