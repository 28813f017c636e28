use Rattle.std.proofs.Common.{ap, map, sym, List, ◌∙◌}
use Rattle.core_ir.specs.View.{expression as core_expression}
use Rattle.typed_tree.specs.declared.expression.Function.{Function}
use Rattle.typed_tree.specs.declared.expression.Step.{Step}
use Rattle.typed_tree.specs.Language.{Exp, Group}
use Rattle.typed_tree.specs.Patterns.{Wildcard}
use Rattle.typed_tree.specs.PatternView.{pattern}
use Rattle.typed_tree.specs.View.{declaration, expression, function, group, kept_or}
use Rattle.typed_tree.proofs.Views.{declaration_views}
use Rattle.elaboration.specs.Checks.{around_all, behind, fails}
use Rattle.elaboration.specs.Elaboration.{on_nearest}
use Rattle.elaboration.specs.Members.{let_in}
use Rattle.elaboration.specs.Scopes.{Scope, beside, under}
use Rattle.core_layers.specs.Layers.{layered}
use Rattle.core_parts.specs.Making.{Grouped}
use Rattle.core_blocks.proofs.Declaring.{beside_one, matched_declares, variable_declares}
use Rattle.core_blocks.proofs.blocks.add_step.Goals as goal

pub returns-in_ok-made-in-Let : goal.returns-in_ok-made-in-Let
returns-in_ok-made-in-Let g c =
    let p = pattern c.in-Let.pattern in
    let x = core_expression c.in_ok-value-in-Let.value in
    let same = c.in_ok-value-in-Let.ensures.scope in
    matched_declares (declaration c.args.step.now) p (expression c.in-Let.value) c.args.scope.now c.add_let.new.scope c.args.groups.now c.part.new.groups c.args.layers.items c.in_ok-made-in-Let.made.items x
    (λ b. ap (λ (d : Step). declaration d b) c.in-Let.is ∙ declaration_views.value c.in-Let.pattern c.in-Let.value b) c.in_ok-value-in-Let.ensures.made.0 c.in_ok-value-in-Let.ensures.made.1
    (c.in_ok-made-in-Let.ensures.scope ∙ ap (λ (t : Scope). behind (on_nearest p t) t) same)
    (λ y. c.in_ok-made-in-Let.ensures.checks fails y ∙ ap (λ (t : Scope). layered c.args.layers.items fails (let_in x (around_all (on_nearest p t).checks fails y))) same)

pub returns-in_ok-made-in-Var : goal.returns-in_ok-made-in-Var
returns-in_ok-made-in-Var g c =
    variable_declares (declaration c.args.step.now) (expression c.in-Var.value) c.args.scope.now c.add_variable.new.scope c.args.groups.now c.part-in-Var.new.groups c.args.layers.items c.in_ok-made-in-Var.made.items
    (core_expression c.in_ok-value-in-Var.value) (λ b. ap (λ (d : Step). declaration d b) c.in-Var.is ∙ declaration_views.variable c.in-Var.value b)
    c.in_ok-value-in-Var.ensures.made.0 c.in_ok-value-in-Var.ensures.made.1 (c.in_ok-made-in-Var.ensures.scope ∙ ap (under 1) c.in_ok-value-in-Var.ensures.scope) (λ y. c.in_ok-made-in-Var.ensures.cell fails y)

pub returns-in_ok-made-in-Stable : goal.returns-in_ok-made-in-Stable
returns-in_ok-made-in-Stable g c =
    variable_declares (declaration c.args.step.now) (kept_or c.in-Stable.kept (expression c.in-Stable.value)) c.args.scope.now c.add_variable-in-Stable.new.scope c.args.groups.now c.kept_or.new.groups c.args.layers.items
    c.in_ok-made-in-Stable.made.items (core_expression c.in_ok-value-in-Stable.value) (λ b. ap (λ (d : Step). declaration d b) c.in-Stable.is ∙ declaration_views.stable c.in-Stable.kept c.in-Stable.value b)
    c.in_ok-value-in-Stable.ensures.made.0 c.in_ok-value-in-Stable.ensures.made.1 (c.in_ok-made-in-Stable.ensures.scope ∙ ap (under 1) c.in_ok-value-in-Stable.ensures.scope) (λ y. c.in_ok-made-in-Stable.ensures.cell fails y)

pub returns-in_ok-made-in-Functions : goal.returns-in_ok-made-in-Functions
returns-in_ok-made-in-Functions g c = record {
  turn = Grouped (group (map function c.as_slice.result.now));
  is = λ b. ap (λ (d : Step). declaration d b) c.in-Functions.is ∙ (declaration_views.functions c.in-Functions.functions b ∙ ap (λ (fs : List Function). Group (group (map function fs)) b) (sym c.as_slice.ensures));
  scope = c.in_ok-made-in-Functions.ensures.scope;
  around = c.in_ok-made-in-Functions.ensures.layers;
  groups = c.in_ok-made-in-Functions.ensures.groups;
}

pub returns-in_ok-made-in-Evaluate : goal.returns-in_ok-made-in-Evaluate
returns-in_ok-made-in-Evaluate g c =
    matched_declares (declaration c.args.step.now) Wildcard (expression c.in-Evaluate.value) c.args.scope.now c.go_beside.new.self c.args.groups.now c.part-in-Evaluate.new.groups c.args.layers.items c.in_ok-made-in-Evaluate.made.items
    (core_expression c.in_ok-value-in-Evaluate.value) (λ b. ap (λ (d : Step). declaration d b) c.in-Evaluate.is ∙ declaration_views.evaluated c.in-Evaluate.value b)
    c.in_ok-value-in-Evaluate.ensures.made.0 c.in_ok-value-in-Evaluate.ensures.made.1 (c.in_ok-go_beside-in-Evaluate.ensures ∙ (ap (beside 1) c.in_ok-value-in-Evaluate.ensures.scope ∙ beside_one c.args.scope.now))
    (λ y. c.in_ok-made-in-Evaluate.ensures fails y)
