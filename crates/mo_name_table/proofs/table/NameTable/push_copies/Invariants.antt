use Rattle.std.proofs.Common.{◌≡◌, ◌++◌, drop}
use Rattle.mo_name_table.specs.Places.{texts}
use Rattle.mo_name_table.proofs.table.NameTable.push_copies.Given as goal

abbrev pub invariant-loop-name : goal.invariant-loop-name
invariant-loop-name l = l.initial.self ++ texts l.names ≡ l.self ++ texts (drop l.name-index l.names)
