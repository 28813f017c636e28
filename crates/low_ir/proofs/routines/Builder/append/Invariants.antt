use Rattle.std.proofs.Common.{◌≡◌, ◌++◌, take}
use Rattle.low_ir.proofs.routines.Builder.append.Given as goal

abbrev pub invariant-loop-routine : goal.invariant-loop-routine
invariant-loop-routine l = l.self-inside.list.items ≡ l.initial.self-inside.list.items ++ take l.routine-index l.routine-items
