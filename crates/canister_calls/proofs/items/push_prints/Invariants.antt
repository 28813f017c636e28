use Rattle.std.proofs.Common.{◌≡◌, ◌++◌}
use Rattle.canister_host.specs.HostRun.{printed}
use Rattle.canister_calls.proofs.items.push_prints.Given as goal

abbrev pub invariant-loop-line : goal.invariant-loop-line
invariant-loop-line l = l.items ≡ l.fn.items ++ printed l.yielded
