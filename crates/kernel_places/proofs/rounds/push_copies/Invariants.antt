use Rattle.std.proofs.Common.{◌≡◌, ◌++◌, take}
use Rattle.kernel_places.proofs.rounds.push_copies.Given as goal

abbrev pub invariant-loop-name : goal.invariant-loop-name
invariant-loop-name l = l.late ≡ l.initial.late ++ take l.name-index l.names
