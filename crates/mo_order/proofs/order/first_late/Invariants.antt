use Rattle.std.proofs.Common.{take}
use Rattle.mo_order.specs.Early.{LateAt}
use Rattle.mo_order.specs.Least.{LeastOf, OneOf}
use Rattle.mo_order.proofs.order.first_late.Given as goal

abbrev pub invariant-loop-name : goal.invariant-loop-name
invariant-loop-name l = LeastOf (OneOf l.fn.least (LateAt l.late (take l.name-index l.occurs))) l.first
