use Rattle.std.proofs.Common.{drop}
use Rattle.mo_types.specs.Sub.{Each}
use Rattle.kernel_methods.specs.Shared.{SharedIn}
use Rattle.kernel_methods.proofs.shared.are_shared.Given as goal

abbrev pub invariant-loop-one : goal.invariant-loop-one
invariant-loop-one l = Each (SharedIn l.types) (drop l.one-index l.fields) → Each (SharedIn l.types) l.fields
