use Rattle.std.proofs.Common.{◌≡◌, map, take}
use Rattle.candid_write.proofs.places.method_parts.Given as goal

abbrev pub invariant-loop-method : goal.invariant-loop-method
invariant-loop-method l = l.made.items ≡ map (λ m. m.part) (take l.method-index l.methods)
