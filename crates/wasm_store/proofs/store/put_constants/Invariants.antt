use Rattle.std.proofs.Common.{◌≡◌, map, take}
use Rattle.wasm_tree.specs.Load.{constant}
use Rattle.wasm_store.proofs.store.put_constants.Given as goal

abbrev pub invariant-loop-part : goal.invariant-loop-part
invariant-loop-part l = l.globals ≡ map (λ g. constant g.init) (take l.part-index l.parts)
