use Rattle.std.proofs.Common.{◌≡◌, drop}
use Rattle.wasm_valid.specs.Parts.{same_kinds}
use Rattle.wasm_valid.proofs.host.same_kinds.Given as goal

abbrev pub invariant-loop-place : goal.invariant-loop-place
invariant-loop-place l = same_kinds l.kinds l.others ≡ same_kinds (drop l.place l.kinds) (drop l.place l.others)
