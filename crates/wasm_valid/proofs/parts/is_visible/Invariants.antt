use Rattle.std.proofs.Common.{◌≡◌, drop}
use Rattle.wasm_valid.specs.Parts.{is_visible}
use Rattle.wasm_valid.proofs.parts.is_visible.Given as goal

abbrev pub invariant-loop-byte : goal.invariant-loop-byte
invariant-loop-byte l = is_visible l.bytes ≡ is_visible (drop l.byte-index l.bytes)
