use Rattle.std.proofs.lemmas.List.{take_more}
use Rattle.std.proofs.Common.{◌∷◌, ◌++◌, [], ℕ, ap, refl, sym, take, ◌∙◌}
use Rattle.abstract_tree.specs.declared.declarations.Declaration.{Declaration}
use Rattle.type_scopes.specs.Scopes.{seen}
use Rattle.object_types.specs.Joining.{method_before}
use Rattle.object_types.proofs.Adding.{all_added, first_added, next_added}
use Rattle.object_types.proofs.members.push_methods.Goals as goal

pub loop-one-init : goal.loop-one-init
loop-one-init c = first_added (method_before (seen c.args.scope.now)) c.args.types.now c.args.list.now c.args.made.now.items c.requires

pub loop-one-preserved : goal.loop-one-preserved
loop-one-preserved c = next_added (method_before (seen c.args.scope.now)) c.args.types.now c.loop-one.types c.push_method.new.types c.args.list.now c.loop-one.one-index c.one-item.result c.args.made.now.items c.loop-one.made.items c.push_method.new.made.items
    (take_more c.args.list.now c.loop-one.one-index c.one-item.result c.loop-one-test.true ∙ ap (λ (n : Declaration ℕ). take c.loop-one.one-index c.args.list.now ++ n ∷ []) (sym c.one-item.is))
    c.loop-one.invariant (rw c.get.ensures at c.in_ok-push_method.ensures)

pub returns : goal.returns
returns c = all_added (method_before (seen c.args.scope.now)) c.args.types.now c.loop-one.types _ c.args.list.now c.loop-one.one-index c.args.made.now.items c.loop-one.made.items c.loop-one-test.false (λ rest. refl) c.loop-one.invariant
