use Rattle.std.proofs.Common.{◌≡◌, ◌++◌, ℕ, take}
use Rattle.std.specs.Global.{Vec}
use Rattle.kernel_places.specs.Using.{once_each, users_at}
use Rattle.kernel_places.proofs.users.add_each.Given as goal

abbrev pub invariant-loop-name : goal.invariant-loop-name
invariant-loop-name l = (q : Vec ℕ) → users_at l.functions q ≡ users_at l.initial.functions q ++ once_each l.index (take l.name-index l.names) q.items
