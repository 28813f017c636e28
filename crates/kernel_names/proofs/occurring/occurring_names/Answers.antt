use Rattle.judged_parts.specs.Parts.{See}
use Rattle.kernel_names.proofs.Collecting.{found_alone}
use Rattle.kernel_names.proofs.occurring.occurring_names.Goals as goal

pub returns : goal.returns
returns c = λ (see : See). found_alone _ _ _ _ _ c.new-bound.ensures c.new-names.ensures (c.in_ok-declaration_within.ensures see)
