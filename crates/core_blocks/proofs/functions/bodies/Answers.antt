use Rattle.std.proofs.Common.{◌≤◌, ◌++◌, ◌∙◌, length, map, ap, refl, arith}
use Rattle.core_ir.specs.View.{core_body}
use Rattle.typed_tree.specs.View.{function, group}
use Rattle.elaboration.specs.Elaboration.{elaborate_functions}
use Rattle.core_blocks.proofs.Writing.{more_bodies, no_more_bodies}
use Rattle.core_blocks.proofs.functions.bodies.Goals as goal

pub loop-one-init : goal.loop-one-init
loop-one-init g c = record {
  made = record { bodies = ap (λ bs. map core_body bs ++ (elaborate_functions c.args.scope.now (length c.args.groups.now) (group (map function c.args.functions.now))).bodies) c.new-made.ensures; groups = refl };
  same = refl;
}

pub loop-one-preserved : goal.loop-one-preserved
loop-one-preserved g c = record {
  made = more_bodies c.args.functions.now c.loop-one.one-index c.one-item.result c.loop-one.scope c.body.new.scope
      (elaborate_functions c.args.scope.now (length c.args.groups.now) (group (map function c.args.functions.now))) c.args.groups.now c.loop-one.groups c.body.new.groups c.loop-one.made c.push.new.self c.in_ok-value.value
      c.loop-one-test.true c.one-item.is c.in_ok-value.ensures.scope c.in_ok-push.ensures.ok c.loop-one.invariant.made c.in_ok-value.ensures.made;
  same = c.in_ok-value.ensures.scope ∙ c.loop-one.invariant.same;
}

pub returns-clause-made : goal.returns-clause-made
returns-clause-made g c =
    let past : length c.args.functions.now ≤ c.loop-one.one-index = omega arith in
    no_more_bodies c.args.functions.now c.loop-one.one-index c.loop-one.scope (elaborate_functions c.args.scope.now (length c.args.groups.now) (group (map function c.args.functions.now))) c.args.groups.now c.loop-one.groups
    c.loop-one.made past c.loop-one.invariant.made
