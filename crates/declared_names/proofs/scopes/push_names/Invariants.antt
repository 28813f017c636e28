use Rattle.std.proofs.Common.{List, drop, map}
use Rattle.typing_rules.specs.TypeScopes.{TypeScope, with_parameters}
use Rattle.abstract_types.specs.declared.names.PlacedName.{PlacedName}
use Rattle.abstract_types.specs.TypeView.{named}
use Rattle.declared_names.proofs.Entering.{Entering}
use Rattle.declared_names.proofs.scopes.push_names.Given as goal

abbrev pub invariant-loop-one : goal.invariant-loop-one
invariant-loop-one l = Entering (λ (s : TypeScope) (xs : List PlacedName). with_parameters s (map named xs)) l.initial.scope l.fn.names l.scope (drop l.one-index l.names)
