use Rattle.std.proofs.Common.{◌≤◌, [], length, map, ap, refl, arith}
use Rattle.typed_tree.specs.View.{block, declaration, expression}
use Rattle.elaboration.specs.Checks.{fails}
use Rattle.elaboration.specs.Elaboration.{elaborate}
use Rattle.core_layers.specs.Layers.{layered}
use Rattle.core_scopes.proofs.Within.{within_same}
use Rattle.core_parts.proofs.Going.{in_any_case, on_ok}
use Rattle.core_blocks.proofs.Declaring.{around_made, declared_within, more_steps, no_more_steps}
use Rattle.core_blocks.proofs.blocks.block.Goals as goal

pub loop-step-init : goal.loop-step-init
loop-step-init g c = record {
  made = record { exp = ap (λ ls. layered ls fails (elaborate c.args.scope.now (length c.args.groups.now) (block (map declaration c.args.steps.now) (expression c.args.value.now))).exp) c.new-layers.ensures.items; groups = refl };
  within = record { names = []; labels = []; places = refl; exits = refl };
}

pub loop-step-preserved : goal.loop-step-preserved
loop-step-preserved g c = record {
  made = more_steps c.args.steps.now c.loop-step.step-index c.step-item.result (expression c.args.value.now) c.loop-step.scope c.add_step.new.scope
      (elaborate c.args.scope.now (length c.args.groups.now) (block (map declaration c.args.steps.now) (expression c.args.value.now))) c.args.groups.now c.loop-step.groups c.add_step.new.groups c.loop-step.layers.items c.in_ok-layers.layers.items
      c.loop-step-test.true c.step-item.is c.loop-step.invariant.made c.in_ok-layers.ensures;
  within = declared_within (declaration c.step-item.result) c.args.scope.now c.loop-step.scope c.add_step.new.scope c.loop-step.groups c.add_step.new.groups c.loop-step.layers.items c.in_ok-layers.layers.items c.loop-step.invariant.within c.in_ok-layers.ensures;
}

pub returns-clause-made : goal.returns-clause-made
returns-clause-made g c =
    let past : length c.args.steps.now ≤ c.loop-step.step-index = omega arith in
    let whole = elaborate c.args.scope.now (length c.args.groups.now) (block (map declaration c.args.steps.now) (expression c.args.value.now)) in
    on_ok c.around.result c.around.ensures (λ made is.
    around_made whole (elaborate c.loop-step.scope (length c.loop-step.groups) (expression c.args.value.now)) c.args.groups.now c.loop-step.groups c.part.new.groups c.loop-step.layers.items c.in_ok-last.last made
    (no_more_steps c.args.steps.now c.loop-step.step-index (expression c.args.value.now) c.loop-step.scope whole c.args.groups.now c.loop-step.groups c.loop-step.layers.items past c.loop-step.invariant.made) c.in_ok-last.ensures.made is)

pub returns-clause-scope : goal.returns-clause-scope
returns-clause-scope g c =
    in_any_case c.around.result (c.back.ensures.within c.args.scope.now c.mark-mark.ensures (within_same c.args.scope.now c.loop-step.scope c.part.new.scope c.in_ok-last.ensures.scope c.loop-step.invariant.within))
