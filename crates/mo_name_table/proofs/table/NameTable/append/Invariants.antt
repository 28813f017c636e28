use Rattle.std.proofs.Common.{◌≡◌, ◌++◌}
use Rattle.mo_name_table.specs.Places.{texts}
use Rattle.mo_name_table.proofs.table.NameTable.append.Given as goal

abbrev pub invariant-loop-name : goal.invariant-loop-name
invariant-loop-name l = l.self ≡ l.initial.self ++ texts l.yielded
