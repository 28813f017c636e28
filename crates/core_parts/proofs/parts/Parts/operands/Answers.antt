use Rattle.std.proofs.Common.{◌≤◌, ◌∙◌, length, map, sym, subst, arith, List}
use Rattle.core_ir.specs.declared.expression.Expression.{Expression}
use Rattle.typed_tree.specs.View.{exps, expression}
use Rattle.elaboration.specs.Elaboration.{ManyElaborated, elaborate_operands}
use Rattle.core_parts.proofs.Going.{Operands, more_operands, no_more_operands}
use Rattle.core_parts.proofs.parts.Parts.operands.Goals as goal

pub loop-operand-preserved : goal.loop-operand-preserved
loop-operand-preserved g c = record {
  made = more_operands c.args.typed.now c.loop-operand.operand-index c.operand-item.result c.loop-operand.scope c.part.new.scope
      (elaborate_operands c.args.scope.now (length c.args.groups.now) (exps (map expression c.args.typed.now))) c.args.groups.now c.loop-operand.groups c.part.new.groups c.loop-operand.made.items c.push.new.self.items c.in_ok-value.value
      c.loop-operand-test.true c.operand-item.is c.in_ok-value.ensures.scope c.in_ok-push.ensures.items c.loop-operand.invariant.made c.in_ok-value.ensures.made;
  same = c.in_ok-value.ensures.scope ∙ c.loop-operand.invariant.same;
}

pub returns-clause-made : goal.returns-clause-made
returns-clause-made g c =
    let past : length c.args.typed.now ≤ c.loop-operand.operand-index = omega arith in
    no_more_operands c.args.typed.now c.loop-operand.operand-index c.loop-operand.scope (elaborate_operands c.args.scope.now (length c.args.groups.now) (exps (map expression c.args.typed.now))) c.args.groups.now c.loop-operand.groups
    c.loop-operand.made.items past c.loop-operand.invariant.made
