use Rattle.std.proofs.Common.{refl}
use Rattle.judged_parts.specs.Parts.{See}
use Rattle.kernel_counts.proofs.Adding.{three_parts}
use Rattle.kernel_counts.proofs.patterns.count_signature.Goals as goal

pub returns : goal.returns
returns c = λ (see : See). three_parts _ _ _ _ _ _ _ c.count_annotation.result (rw c.as_slice.ensures at c.in_ok-first.ensures) (rw c.as_slice-2.ensures at (c.in_ok-second.ensures see)) c.count_annotation.ensures refl
