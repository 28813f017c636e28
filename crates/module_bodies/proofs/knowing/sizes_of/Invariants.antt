use Rattle.std.proofs.Common.{◌≡◌, length, map, take}
use Rattle.module_bodies.proofs.knowing.sizes_of.Given as goal

abbrev pub invariant-loop-group : goal.invariant-loop-group
invariant-loop-group l = l.sizes ≡ map (λ g. length g.bodies) (take l.group-index l.groups)
