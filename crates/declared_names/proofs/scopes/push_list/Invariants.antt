use Rattle.std.proofs.Common.{ℕ, List, drop, map}
use Rattle.typing_rules.specs.DeclaredTypes.{with_list}
use Rattle.typing_rules.specs.TypeScopes.{TypeScope}
use Rattle.abstract_tree.specs.declared.declarations.Declaration.{Declaration}
use Rattle.abstract_tree.specs.TreeView.{declarations, plain_declaration}
use Rattle.declared_names.proofs.Entering.{Entering}
use Rattle.declared_names.proofs.scopes.push_list.Given as goal

abbrev pub invariant-loop-one : goal.invariant-loop-one
invariant-loop-one l = Entering (λ (s : TypeScope) (xs : List (Declaration ℕ)). with_list s (declarations (map plain_declaration xs))) l.initial.scope l.fn.list l.scope (drop l.one-index l.list)
