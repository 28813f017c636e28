use Rattle.std.proofs.Common.{ℕ, List, map, refl}
use Rattle.typing_rules.specs.DeclaredTypes.{with_declared, with_list}
use Rattle.typing_rules.specs.TypeScopes.{TypeScope}
use Rattle.abstract_tree.specs.declared.declarations.Declaration.{Declaration}
use Rattle.abstract_tree.specs.TreeView.{declarations, plain_declaration, plain_declaration_form}
use Rattle.declared_names.proofs.DeclaredNames.{list_step}
use Rattle.declared_names.proofs.Entering.{all_entered, none_entered, one_entered}
use Rattle.declared_names.proofs.scopes.push_list.Goals as goal

abbrev enter_all : TypeScope → List (Declaration ℕ) → TypeScope
enter_all s xs = with_list s (declarations (map plain_declaration xs))

pub loop-one-init : goal.loop-one-init
loop-one-init c = none_entered enter_all c.args.scope.now c.args.list.now

pub loop-one-preserved : goal.loop-one-preserved
loop-one-preserved c = one_entered enter_all (λ s x. with_declared s (plain_declaration_form x.form)) list_step _ c.args.list.now _ _ _ _ c.loop-one-test.true c.one-item.is (rw c.get.ensures at c.in_ok-push_declared.ensures.seen) c.in_ok-push_declared.ensures.extends c.loop-one.invariant

pub returns-clause-seen : goal.returns-clause-seen
returns-clause-seen c = all_entered enter_all (λ s. refl) _ c.args.list.now _ _ c.loop-one-test.false c.loop-one.invariant

pub returns-clause-extends : goal.returns-clause-extends
returns-clause-extends c = c.loop-one.invariant.extends
