use Rattle.std.proofs.Common.{List, map, ap, sym, ◌∙◌}
use Rattle.typed_tree.specs.declared.expression.Case.{Case}
use Rattle.typed_tree.specs.declared.expression.Step.{Step}
use Rattle.typed_tree.specs.declared.expression.TypedExpression.{TypedExpression}
use Rattle.typed_tree.specs.declared.expression.Form.TheVariants as f
use Rattle.typed_tree.specs.Language.{Val, Name, Do, If, Switch, While, Repeat, For, Label, Try, Update}
use Rattle.typed_tree.specs.PatternView.{literal_value, pattern}
use Rattle.typed_tree.specs.View.{block, case_view, cases, declaration, endless, exps, expression}
use Rattle.typed_tree.proofs.Views.{form_views}
use Rattle.elaboration.specs.Elaboration.{constant_of}
use Rattle.elaboration.specs.Scopes.{read_name}
use Rattle.core_expressions.proofs.Arms.{in_form, no_groups}
use Rattle.core_expressions.proofs.forms.by_form.Goals as goal

pub returns-in-Constant-clause-made : goal.returns-in-Constant-clause-made
returns-in-Constant-clause-made g c =
    in_form c.args.typed.now (f.Constant c.in-Constant.literal) (Val (literal_value c.in-Constant.literal)) c.args.scope.now c.args.groups.now c.args.groups.now c.constant.result (sym c.get.ensures ∙ c.in-Constant.is)
    (form_views.constant c.in-Constant.literal) (no_groups (constant_of (literal_value c.in-Constant.literal)) c.args.groups.now c.constant.result c.constant.ensures)

pub returns-in-Name-clause-made : goal.returns-in-Name-clause-made
returns-in-Name-clause-made g c =
    in_form c.args.typed.now (f.Name c.in-Name.index) (Name c.in-Name.index) c.args.scope.now c.args.groups.now c.args.groups.now c.read_name.result (sym c.get.ensures ∙ c.in-Name.is)
    (form_views.name c.in-Name.index) (no_groups (read_name c.args.scope.now c.in-Name.index) c.args.groups.now c.read_name.result c.read_name.ensures)

pub returns-in-Do-clause-made : goal.returns-in-Do-clause-made
returns-in-Do-clause-made g c =
    in_form c.args.typed.now (f.Do c.in-Do.action c.in-Do.operands) (Do c.in-Do.action (exps (map expression c.as_slice.result.now))) c.args.scope.now c.args.groups.now c.act.new.groups c.act.result (sym c.get.ensures ∙ c.in-Do.is)
    (form_views.operands c.in-Do.action c.in-Do.operands ∙ ap (λ (es : List TypedExpression). Do c.in-Do.action (exps (map expression es))) (sym c.as_slice.ensures)) c.act.ensures.made

pub returns-in-If-clause-made : goal.returns-in-If-clause-made
returns-in-If-clause-made g c =
    in_form c.args.typed.now (f.If c.in-If.condition c.in-If.first c.in-If.second) (If (expression c.in-If.condition) (expression c.in-If.first) (expression c.in-If.second)) c.args.scope.now c.args.groups.now c.choose.new.groups c.choose.result (sym c.get.ensures ∙ c.in-If.is)
    (form_views.choice c.in-If.condition c.in-If.first c.in-If.second) c.choose.ensures.made

pub returns-in-Switch-clause-made : goal.returns-in-Switch-clause-made
returns-in-Switch-clause-made g c =
    in_form c.args.typed.now (f.Switch c.in-Switch._token c.in-Switch.of c.in-Switch.cases) (Switch (expression c.in-Switch.of) (cases (map case_view c.as_slice-in-Switch.result.now))) c.args.scope.now c.args.groups.now c.switch.new.groups c.switch.result (sym c.get.ensures ∙ c.in-Switch.is)
    (form_views.switch c.in-Switch._token c.in-Switch.of c.in-Switch.cases ∙ ap (λ (xs : List Case). Switch (expression c.in-Switch.of) (cases (map case_view xs))) (sym c.as_slice-in-Switch.ensures)) c.switch.ensures.made

pub returns-in-While-clause-made : goal.returns-in-While-clause-made
returns-in-While-clause-made g c =
    in_form c.args.typed.now (f.While c.in-While.condition c.in-While.body) (While (expression c.in-While.condition) (expression c.in-While.body)) c.args.scope.now c.args.groups.now c.while_loop.new.groups c.while_loop.result (sym c.get.ensures ∙ c.in-While.is)
    (form_views.while c.in-While.condition c.in-While.body) c.while_loop.ensures.made

pub returns-in-Loop-clause-made : goal.returns-in-Loop-clause-made
returns-in-Loop-clause-made g c =
    in_form c.args.typed.now (f.Loop c.in-Loop.body) (endless (expression c.in-Loop.body)) c.args.scope.now c.args.groups.now c.endless.new.groups c.endless.result (sym c.get.ensures ∙ c.in-Loop.is)
    (form_views.loop c.in-Loop.body) c.endless.ensures.made

pub returns-in-Repeat-clause-made : goal.returns-in-Repeat-clause-made
returns-in-Repeat-clause-made g c =
    in_form c.args.typed.now (f.Repeat c.in-Repeat.body c.in-Repeat.condition) (Repeat (expression c.in-Repeat.body) (expression c.in-Repeat.condition)) c.args.scope.now c.args.groups.now c.repeat.new.groups c.repeat.result (sym c.get.ensures ∙ c.in-Repeat.is)
    (form_views.repeat c.in-Repeat.body c.in-Repeat.condition) c.repeat.ensures.made

pub returns-in-For-clause-made : goal.returns-in-For-clause-made
returns-in-For-clause-made g c =
    in_form c.args.typed.now (f.For c.in-For.element c.in-For.of c.in-For.body) (For (pattern c.in-For.element) (expression c.in-For.of) (expression c.in-For.body)) c.args.scope.now c.args.groups.now c.for_each.new.groups c.for_each.result (sym c.get.ensures ∙ c.in-For.is)
    (form_views.for c.in-For.element c.in-For.of c.in-For.body) c.for_each.ensures.made

pub returns-in-Label-clause-made : goal.returns-in-Label-clause-made
returns-in-Label-clause-made g c =
    in_form c.args.typed.now (f.Label c.in-Label.body) (Label (expression c.in-Label.body)) c.args.scope.now c.args.groups.now c.label.new.groups c.label.result (sym c.get.ensures ∙ c.in-Label.is)
    (form_views.label c.in-Label.body) c.label.ensures.made

pub returns-in-Try-clause-made : goal.returns-in-Try-clause-made
returns-in-Try-clause-made g c =
    in_form c.args.typed.now (f.Try c.in-Try.body c.in-Try.error c.in-Try.handler) (Try (expression c.in-Try.body) (pattern c.in-Try.error) (expression c.in-Try.handler)) c.args.scope.now c.args.groups.now c.attempt.new.groups c.attempt.result (sym c.get.ensures ∙ c.in-Try.is)
    (form_views.attempt c.in-Try.body c.in-Try.error c.in-Try.handler) c.attempt.ensures.made

pub returns-in-Update-clause-made : goal.returns-in-Update-clause-made
returns-in-Update-clause-made g c =
    in_form c.args.typed.now (f.Update c.in-Update.operation c.in-Update.target c.in-Update.operand) (Update c.in-Update.operation (expression c.in-Update.target) (expression c.in-Update.operand)) c.args.scope.now c.args.groups.now c.update.new.groups c.update.result (sym c.get.ensures ∙ c.in-Update.is)
    (form_views.update c.in-Update.operation c.in-Update.target c.in-Update.operand) c.update.ensures.made

pub returns-in-Block-clause-made : goal.returns-in-Block-clause-made
returns-in-Block-clause-made g c =
    in_form c.args.typed.now (f.Block c.in-Block.steps c.in-Block.value) (block (map declaration c.as_slice-in-Block.result.now) (expression c.in-Block.value)) c.args.scope.now c.args.groups.now c.block.new.groups c.block.result (sym c.get.ensures ∙ c.in-Block.is)
    (form_views.declarations c.in-Block.steps c.in-Block.value ∙ ap (λ (ss : List Step). block (map declaration ss) (expression c.in-Block.value)) (sym c.as_slice-in-Block.ensures)) c.block.ensures.made
