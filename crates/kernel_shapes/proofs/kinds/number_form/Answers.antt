use Rattle.std.proofs.Common.{◌∙◌, ap}
use Rattle.judged_parts.specs.Parts.{See}
use Rattle.kernel_shapes.specs.Kinds.{as_number}
use Rattle.kernel_shapes.proofs.kinds.number_form.Goals as goal

pub returns : goal.returns
returns c = λ (see : See). c.as_number.ensures see ∙ ap as_number (c.shape_of_form.ensures see)
