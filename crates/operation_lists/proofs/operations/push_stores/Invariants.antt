use Rattle.std.proofs.Common.{◌≡◌, ◌++◌, drop}
use Rattle.low_ir.specs.Flat.{flat}
use Rattle.low_ir.specs.Tree.{Code}
use Rattle.operation_codes.specs.Codes.{stores}
use Rattle.operation_lists.proofs.operations.push_stores.Given as goal

abbrev pub invariant-loop-place : goal.invariant-loop-place
invariant-loop-place l = (rest : Code) → l.list ++ flat (stores l.free l.place (drop l.place l.words) rest) ≡ l.fn.list ++ flat (stores l.free 0 l.words rest)
