use Rattle.std.proofs.Common.{◌≡◌, ℕ, take}
use Rattle.std.specs.Global.{Vec}
use Rattle.mo_order.specs.Calls.{functions_at, mentions}
use Rattle.mo_order.proofs.calls.calls_of.Given as goal

abbrev pub invariant-loop-one : goal.invariant-loop-one
invariant-loop-one l = (q : Vec ℕ) → functions_at l.functions q ≡ mentions (take l.one-index l.steps) q.items
