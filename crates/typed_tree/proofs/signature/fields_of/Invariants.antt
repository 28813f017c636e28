use Rattle.std.proofs.Common.{◌≡◌, map, take}
use Rattle.typed_tree.specs.StableSignature.{field}
use Rattle.typed_tree.proofs.signature.fields_of.Given as goal

abbrev pub invariant-loop-variable : goal.invariant-loop-variable
invariant-loop-variable l = l.made.items ≡ map field (take l.variable-index l.variables)
