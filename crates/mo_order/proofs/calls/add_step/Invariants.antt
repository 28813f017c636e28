use Rattle.std.proofs.Common.{◌≡◌, ◌++◌, [], ℕ, cond, take}
use Rattle.std.specs.Global.{Vec}
use Rattle.std.specs.List.{flat_map}
use Rattle.std.specs.Str.{bytes_eq}
use Rattle.mo_order.specs.Calls.{functions_at}
use Rattle.mo_order.proofs.calls.add_step.Given as goal

abbrev pub invariant-loop-name : goal.invariant-loop-name
invariant-loop-name l = (q : Vec ℕ) → functions_at l.functions q ≡ functions_at l.initial.functions q ++ flat_map (λ o. cond (bytes_eq o.bytes q.items) l.step.functions []) (take l.name-index l.step.occurs)
