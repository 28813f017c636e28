use Rattle.std.proofs.Common.{◌≡◌, ◌+◌, ◌-◌, ◌^◌, take}
use Rattle.wasm_layout.specs.Sizes.{locals_of}
use Rattle.wasm_layout.proofs.size.are_few.Given as goal

abbrev pub invariant-loop-group : goal.invariant-loop-group
invariant-loop-group l = l.left + locals_of (take l.group-index l.groups) ≡ 2 ^ 32 - 1
