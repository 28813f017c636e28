use Rattle.std.proofs.Common.{◌≡◌, ◌++◌, drop}
use Rattle.mo_name_table.proofs.names.push_copies.Given as goal

abbrev pub invariant-loop-one : goal.invariant-loop-one
invariant-loop-one l = l.initial.names ++ l.more ≡ l.names ++ drop l.one-index l.more
