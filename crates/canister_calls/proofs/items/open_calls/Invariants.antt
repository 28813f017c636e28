use Rattle.std.proofs.Common.{◌≡◌, ◌+◌, ◌++◌, length, map}
use Rattle.canister_host.specs.HostRun.{numbered, call_item}
use Rattle.canister_calls.proofs.items.open_calls.Given as goal

abbrev pub invariant-loop-call : goal.invariant-loop-call
invariant-loop-call l = record {
  number : l.number ≡ l.fn.first + length l.yielded;
  opened : l.opened.items ≡ numbered l.fn.owner l.fn.first l.yielded;
  items : l.items ≡ l.fn.items ++ map call_item (numbered l.fn.owner l.fn.first l.yielded);
}
