use Rattle.std.proofs.Common.{◌≡◌, ◌++◌, drop, map}
use Rattle.wasm_tree.specs.declared.types.ValueType.{ValueType}
use Rattle.wasm_tree.specs.declared.module_parts.Locals.{Locals}
use Rattle.wasm_emit.proofs.parts.locals.Given as goal

abbrev one_local : ValueType → Locals
one_local kind = record { count = 1; kind = kind }

abbrev pub invariant-loop-kind : goal.invariant-loop-kind
invariant-loop-kind l = map one_local l.kinds ≡ l.locals ++ map one_local (drop l.kind-index l.kinds)
