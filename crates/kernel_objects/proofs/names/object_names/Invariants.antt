use Rattle.std.proofs.Common.{drop}
use Rattle.judged_parts.specs.Parts.{See}
use Rattle.kernel_objects.proofs.Collected.{Left}
use Rattle.kernel_objects.proofs.names.object_names.Given as goal

abbrev pub invariant-loop-one : goal.invariant-loop-one
invariant-loop-one l = (see : See) → Left see l.fn.list (drop l.one-index l.list) l.names
