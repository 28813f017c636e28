use Rattle.std.proofs.Common.{◌≡◌, ◌+◌, ◌++◌, take}
use Rattle.arena_outcomes.specs.Books.{call_items}
use Rattle.arena_outcomes.proofs.items.with_calls.Given as goal

abbrev pub invariant-loop-call : goal.invariant-loop-call
invariant-loop-call l = record {
  all : l.all ≡ l.fn.items ++ call_items l.fn.first (take l.call-index l.calls);
  number : l.number ≡ l.fn.first + l.call-index;
}
