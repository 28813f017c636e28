use Rattle.std.proofs.Common.{◌≡◌, drop}
use Rattle.wasm_valid.specs.Verdict.{Verdict}
use Rattle.wasm_valid.specs.Parts.{each}
use Rattle.wasm_valid.proofs.check.check_each.Given as goal

abbrev pub invariant-loop-item : goal.invariant-loop-item
invariant-loop-item g l = (rest : Verdict) → each (g.T.Check.checked l.within l.indices) l.items rest ≡ each (g.T.Check.checked l.within l.indices) (drop l.item-index l.items) rest
