use Rattle.std.proofs.Common.{◌≡◌, ◌++◌, map}
use Rattle.arena_outcomes.specs.Books.{opened}
use Rattle.arena_outcomes.proofs.lists.with_calls.Given as goal

abbrev pub invariant-loop-call : goal.invariant-loop-call
invariant-loop-call l = l.all ≡ l.fn.made ++ map (λ c. opened l.owner c) l.yielded
