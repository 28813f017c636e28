use Rattle.std.proofs.Common.{◌≡◌, [], ℕ}
use Rattle.std.specs.Global.{Vec}
use Rattle.kernel_places.specs.Using.{uses_below, users_at}
use Rattle.kernel_places.proofs.users.add_steps.Given as goal

abbrev pub invariant-loop-index : goal.invariant-loop-index
invariant-loop-index l = (q : Vec ℕ) → users_at l.initial.functions q ≡ [] → users_at l.functions q ≡ uses_below l.index l.steps q.items
