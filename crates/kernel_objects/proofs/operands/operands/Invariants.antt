use Rattle.std.proofs.Common.{◌≡◌, map, take}
use Rattle.kernel_objects.specs.Objects.{operand_in}
use Rattle.kernel_objects.proofs.operands.operands.Given as goal

abbrev pub invariant-loop-name : goal.invariant-loop-name
invariant-loop-name l = l.made ≡ map (operand_in l.types l.frames l.kind) (take l.name-index l.names)
