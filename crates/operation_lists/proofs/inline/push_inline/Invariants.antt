use Rattle.std.proofs.Common.{◌≡◌, ◌++◌, drop}
use Rattle.operation_codes.specs.Codes.{places_from}
use Rattle.operation_lists.specs.Listed.{ops_at}
use Rattle.operation_lists.proofs.inline.push_inline.Given as goal

abbrev pub invariant-loop-op : goal.invariant-loop-op
invariant-loop-op l = l.list ++ ops_at (places_from l.reads l.writes) l.to (drop l.op-index l.ops) ≡ l.fn.list ++ ops_at (places_from l.reads l.writes) l.to l.ops
