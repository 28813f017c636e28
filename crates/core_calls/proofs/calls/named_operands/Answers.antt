use Rattle.std.proofs.Common.{◌≤◌, ◌∙◌, [], length, map, ap, arith}
use Rattle.typed_tree.specs.View.{exps, expression}
use Rattle.elaboration.specs.Elaboration.{elaborate_names}
use Rattle.elaboration.specs.Scopes.{Scope, beside}
use Rattle.core_calls.proofs.Operating.{more_names, no_more_names}
use Rattle.core_calls.proofs.calls.named_operands.Goals as goal

pub loop-operand-preserved : goal.loop-operand-preserved
loop-operand-preserved g c =
    let there = c.in_ok-go_beside.ensures ∙ ap (beside 1) c.in_ok-value.ensures.scope in
    record {
      made = more_names c.args.typed.now c.loop-operand.operand-index c.operand-item.result c.loop-operand.scope c.go_beside.new.self
          (elaborate_names c.args.scope.now (length c.args.groups.now) (exps (map expression c.args.typed.now))) c.args.groups.now c.loop-operand.groups c.part.new.groups c.loop-operand.made.items c.push.new.self.items c.in_ok-value.value
          c.loop-operand-test.true c.operand-item.is there c.in_ok-push.ensures.items c.loop-operand.invariant.made c.in_ok-value.ensures.made;
      places = ap (λ (s : Scope). s.places) there ∙ c.loop-operand.invariant.places;
      exits = ap (λ (s : Scope). s.exits) there ∙ c.loop-operand.invariant.exits;
    }

pub returns-clause-made : goal.returns-clause-made
returns-clause-made g c =
    let past : length c.args.typed.now ≤ c.loop-operand.operand-index = omega arith in
    no_more_names c.args.typed.now c.loop-operand.operand-index c.loop-operand.scope (elaborate_names c.args.scope.now (length c.args.groups.now) (exps (map expression c.args.typed.now))) c.args.groups.now c.loop-operand.groups
    c.loop-operand.made.items past c.loop-operand.invariant.made

pub returns-clause-scope : goal.returns-clause-scope
returns-clause-scope g c =
    c.back.ensures.within c.args.scope.now c.mark-mark.ensures (record { names = []; labels = []; places = c.loop-operand.invariant.places; exits = c.loop-operand.invariant.exits })
