use Rattle.judged_parts.specs.Parts.{See}
use Rattle.kernel_counts.proofs.Adding.{counts_none}
use Rattle.kernel_counts.proofs.patterns.count_context.Goals as goal

pub returns-in-None : goal.returns-in-None
returns-in-None c = λ (see : See). rw c.in-None.is (counts_none c.args.counted)

pub returns-in-Some : goal.returns-in-Some
returns-in-Some c = λ (see : See). rw c.in-Some.is (c.count_pattern.ensures see)
