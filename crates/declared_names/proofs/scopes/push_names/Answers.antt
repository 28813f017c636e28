use Rattle.std.proofs.Common.{List, map, refl}
use Rattle.typing_rules.specs.TypeScopes.{TypeScope, with_parameter, with_parameters}
use Rattle.abstract_types.specs.declared.names.PlacedName.{PlacedName}
use Rattle.abstract_types.specs.TypeView.{named}
use Rattle.declared_names.proofs.Entering.{all_entered, extends_with, none_entered, one_entered}
use Rattle.declared_names.proofs.scopes.push_names.Goals as goal

abbrev enter_all : TypeScope → List PlacedName → TypeScope
enter_all s xs = with_parameters s (map named xs)

pub loop-one-init : goal.loop-one-init
loop-one-init c = none_entered enter_all c.args.scope.now c.args.names.now

pub loop-one-preserved : goal.loop-one-preserved
loop-one-preserved c = one_entered enter_all (λ s x. with_parameter s (named x)) (λ s x xs. refl) _ c.args.names.now _ _ _ _ c.loop-one-test.true c.one-item.is (rw c.as_slice.ensures at c.in_ok-push_parameter.ensures.seen) (extends_with _ _ _ _ c.in_ok-push_parameter.ensures.ok) c.loop-one.invariant

pub returns-clause-seen : goal.returns-clause-seen
returns-clause-seen c = all_entered enter_all (λ s. refl) _ c.args.names.now _ _ c.loop-one-test.false c.loop-one.invariant

pub returns-clause-extends : goal.returns-clause-extends
returns-clause-extends c = c.loop-one.invariant.extends
