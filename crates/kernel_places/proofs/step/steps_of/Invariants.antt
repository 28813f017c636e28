use Rattle.std.proofs.Common.{take}
use Rattle.judged_parts.specs.Parts.{See}
use Rattle.kernel_places.specs.Similar.{AllAlike, declared_list}
use Rattle.kernel_places.proofs.step.steps_of.Given as goal

abbrev pub invariant-loop-one : goal.invariant-loop-one
invariant-loop-one l = (see : See) → AllAlike l.steps (declared_list see (take l.one-index l.list))
