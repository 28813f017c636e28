use Rattle.std.proofs.Common.{List, drop, map}
use Rattle.typing_rules.specs.TypeScopes.{TypeScope, names_of, with_parameters}
use Rattle.abstract_types.specs.declared.types.TypeParameter.{TypeParameter}
use Rattle.abstract_types.specs.TypeView.{parameter}
use Rattle.declared_names.proofs.Entering.{Entering}
use Rattle.declared_names.proofs.scopes.push_generics.Given as goal

abbrev pub invariant-loop-one : goal.invariant-loop-one
invariant-loop-one l = Entering (λ (s : TypeScope) (xs : List TypeParameter). with_parameters s (names_of (map parameter xs))) l.initial.scope l.fn.generics l.scope (drop l.one-index l.generics)
