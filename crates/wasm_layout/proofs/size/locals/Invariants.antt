use Rattle.std.proofs.Common.{◌≡◌, take}
use Rattle.wasm_layout.specs.Sizes.{locals_of}
use Rattle.wasm_layout.proofs.size.locals.Given as goal

abbrev pub invariant-loop-group : goal.invariant-loop-group
invariant-loop-group l = l.count ≡ locals_of (take l.group-index l.groups)
