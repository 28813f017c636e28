use Rattle.std.proofs.Common.{take}
use Rattle.mo_name_table.specs.Places.{texts}
use Rattle.mo_order.specs.Reach.{Grown}
use Rattle.mo_order.proofs.reach.push_new.Given as goal

abbrev pub invariant-loop-name : goal.invariant-loop-name
invariant-loop-name l = Grown l.initial.late (texts (take l.name-index l.names)) l.late
