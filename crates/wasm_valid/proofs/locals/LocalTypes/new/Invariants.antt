use Rattle.std.proofs.Common.{◌++◌, take}
use Rattle.wasm_tree.specs.Rules.{grouped}
use Rattle.wasm_valid.proofs.Grouped.{Built}
use Rattle.wasm_valid.proofs.locals.LocalTypes.new.Given as goal

abbrev pub invariant-loop-kind : goal.invariant-loop-kind
invariant-loop-kind l = Built l.all.items (take l.kind-index l.params) l.end

abbrev pub invariant-loop-group : goal.invariant-loop-group
invariant-loop-group l = Built l.all.items (l.params ++ grouped (take l.group-index l.groups)) l.end
