use Rattle.std.proofs.Common.{◌≡◌, ◌++◌, take}
use Rattle.kernel_names.proofs.names.enter.Given as goal

abbrev pub invariant-loop-name : goal.invariant-loop-name
invariant-loop-name l = l.bound ≡ l.initial.bound ++ take l.name-index l.names
