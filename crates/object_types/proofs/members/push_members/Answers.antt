use Rattle.std.proofs.lemmas.List.{take_more}
use Rattle.std.proofs.Common.{◌∷◌, ◌++◌, [], ℕ, ap, refl, subst, sym, take, ◌∙◌}
use Rattle.abstract_tree.specs.declared.declarations.Declaration.{Declaration}
use Rattle.type_scopes.specs.Scopes.{Names, seen}
use Rattle.object_types.specs.Adding.{Adds}
use Rattle.object_types.specs.Joining.{member_before}
use Rattle.object_types.proofs.Adding.{all_added, first_added, next_added}
use Rattle.object_types.proofs.members.push_members.Goals as goal

pub loop-one-init : goal.loop-one-init
loop-one-init c = record { made = first_added (member_before (seen c.args.scope.now)) c.args.types.now c.args.list.now c.args.made.now.items c.requires; scope = refl }

pub loop-one-preserved : goal.loop-one-preserved
loop-one-preserved c = record {
  made = next_added (member_before (seen c.args.scope.now)) c.args.types.now c.loop-one.types c.push_member.new.types c.args.list.now c.loop-one.one-index c.one-item.result c.args.made.now.items c.loop-one.made.items c.push_member.new.made.items
      (take_more c.args.list.now c.loop-one.one-index c.one-item.result c.loop-one-test.true ∙ ap (λ (n : Declaration ℕ). take c.loop-one.one-index c.args.list.now ++ n ∷ []) (sym c.one-item.is))
      c.loop-one.invariant.made
      (subst (λ (s : Names). Adds c.loop-one.types c.push_member.new.types (member_before (seen s) c.one-item.result) c.loop-one.made.items c.push_member.new.made.items) c.loop-one.invariant.scope c.in_ok-push_member.ensures.made);
  scope = c.in_ok-push_member.ensures.scope ∙ c.loop-one.invariant.scope;
}

pub returns-clause-made : goal.returns-clause-made
returns-clause-made c = all_added (member_before (seen c.args.scope.now)) c.args.types.now c.loop-one.types _ c.args.list.now c.loop-one.one-index c.args.made.now.items c.loop-one.made.items c.loop-one-test.false (λ rest. refl) c.loop-one.invariant.made

pub returns-clause-scope : goal.returns-clause-scope
returns-clause-scope c = c.loop-one.invariant.scope
