use Rattle.std.proofs.Common.{◌≤◌, ◌++◌, ◌∙◌, length, map, ap, refl, arith}
use Rattle.core_ir.specs.View.{core_body}
use Rattle.typed_tree.specs.View.{group}
use Rattle.core_methods.specs.Behind.{method_function}
use Rattle.elaboration.specs.Elaboration.{elaborate_functions}
use Rattle.core_methods.proofs.Serving.{more_methods, no_more_methods}
use Rattle.core_methods.proofs.methods.method_bodies.Goals as goal

pub loop-one-init : goal.loop-one-init
loop-one-init c = record {
  made = record { bodies = ap (λ bs. map core_body bs ++ (elaborate_functions c.args.scope.now (length c.args.groups.now) (group (map method_function c.args.methods.now))).bodies) c.new-made.ensures; groups = refl };
  same = refl;
}

pub loop-one-preserved : goal.loop-one-preserved
loop-one-preserved c = record {
  made = more_methods c.args.methods.now c.loop-one.one-index c.one-item.result c.loop-one.scope c.method_body.new.scope
      (elaborate_functions c.args.scope.now (length c.args.groups.now) (group (map method_function c.args.methods.now))) c.args.groups.now c.loop-one.groups c.method_body.new.groups c.loop-one.made c.push.new.self c.in_ok-value.value
      c.loop-one-test.true c.one-item.is c.in_ok-value.ensures.scope c.in_ok-push.ensures.ok c.loop-one.invariant.made c.in_ok-value.ensures.made;
  same = c.in_ok-value.ensures.scope ∙ c.loop-one.invariant.same;
}

pub returns-clause-made : goal.returns-clause-made
returns-clause-made c =
    let past : length c.args.methods.now ≤ c.loop-one.one-index = omega arith in
    no_more_methods c.args.methods.now c.loop-one.one-index c.loop-one.scope (elaborate_functions c.args.scope.now (length c.args.groups.now) (group (map method_function c.args.methods.now))) c.args.groups.now c.loop-one.groups
    c.loop-one.made past c.loop-one.invariant.made
