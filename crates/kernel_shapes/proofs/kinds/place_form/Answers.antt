use Rattle.std.proofs.Common.{◌∙◌, ap}
use Rattle.judged_parts.specs.Parts.{See}
use Rattle.kernel_shapes.specs.Kinds.{as_place}
use Rattle.kernel_shapes.proofs.kinds.place_form.Goals as goal

pub returns : goal.returns
returns c = λ (see : See). c.as_place.ensures see ∙ ap as_place (c.shape_of_form.ensures see)
