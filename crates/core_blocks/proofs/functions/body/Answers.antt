use Rattle.std.proofs.Common.{◌≡◌, List, [], length, ap, ap₂, sym, subst, ℕ, ◌-◌, ◌∙◌}
use Rattle.core_ir.specs.Expressions.{Body, Exp}
use Rattle.core_ir.specs.View.{expression as core_expression}
use Rattle.typed_tree.specs.declared.pattern.TypedPattern.{TypedPattern}
use Rattle.typed_tree.specs.PatternView.{patterns}
use Rattle.typed_tree.specs.View.{FunctionView, expression}
use Rattle.elaboration.specs.Checks.{Checked, around_all, behind, check_all, fails, locals}
use Rattle.elaboration.specs.Elaboration.{number_of_parameters, on_parameters}
use Rattle.elaboration.specs.Scopes.{Scope, in_body}
use Rattle.core_parts.specs.Making.{Added, elaborate_body}
use Rattle.core_parts.proofs.Going.{made_in}
use Rattle.core_blocks.proofs.Writing.{function_is, parameters_are}
use Rattle.core_blocks.proofs.functions.body.Goals as goal

pub returns-clause-made : goal.returns-clause-made
returns-clause-made g c =
    let s : Scope = c.args.scope.now in
    let ps = patterns c.args.written.now.parameters in
    let n : ℕ = number_of_parameters ps in
    let d : Checked = on_parameters ps s in
    let t : Scope = in_body n s in
    let b = expression c.args.written.now.body in
    let count = c.in_ok-parameters.ensures ∙ (c.len.ensures ∙ sym (parameters_are c.args.written.now.parameters)) in
    let there = c.in_ok-exits.ensures.body ∙ ap (λ (k : ℕ). in_body k s) count in
    let At : List TypedPattern → Scope → Checked = λ xs u. check_all (patterns xs) (u.names - 1) u.names in
    let inner = made_in c.bind_parameters.new.scope (behind d t) (length c.args.groups.now) b c.args.groups.now c.part.new.groups c.in_ok-inner.inner (c.in_ok-checks.ensures.scope ∙ ap₂ (λ (xs : List TypedPattern) (u : Scope). behind (At xs u) u) c.as_slice.ensures there) c.in_ok-inner.ensures.made in
    let whole =
    c.in_ok-expression.ensures ∙ (c.in_ok-checks.ensures.checks fails (core_expression c.in_ok-inner.inner)
    ∙ (ap₂ (λ (xs : List TypedPattern) (u : Scope). around_all (At xs u).checks fails (core_expression c.in_ok-inner.inner)) c.as_slice.ensures there ∙ ap (λ (x : Exp). around_all d.checks fails x) inner.0)) in
    let x : Exp = core_expression c.in_ok-expression.expression in
    let Of : FunctionView → Type 0 = λ f. record { parameters = c.in_ok-parameters.parameters; nodes = c.args.written.now.nodes; expression = x } ≡ (elaborate_body s (length c.args.groups.now) f).body in
    let And : FunctionView → Type 0 = λ f. Added (elaborate_body s (length c.args.groups.now) f).groups c.args.groups.now c.part.new.groups in
    (subst Of (sym (function_is c.args.written.now)) (ap₂ (λ (k : ℕ) (y : Exp). record { parameters = k; nodes = c.args.written.now.nodes; expression = y }) count whole), subst And (sym (function_is c.args.written.now)) inner.1)

pub returns-clause-scope : goal.returns-clause-scope
returns-clause-scope g c =
    let d : Checked = check_all (patterns c.as_slice.result.now) (c.enter_body.new.self.names - 1) c.enter_body.new.self.names in
    let there = c.in_ok-inner.ensures.scope ∙ c.in_ok-checks.ensures.scope in
    c.back.ensures.within c.args.scope.now c.mark-mark.ensures (record {
      names = locals d.bound;
      labels = [];
      places = ap (λ (u : Scope). u.places) c.leave_body.ensures ∙ (ap (λ (u : Scope). u.places) there ∙ ap (λ (u : Scope). (behind d u).places) c.in_ok-exits.ensures.body);
      exits = ap (λ (u : Scope). u.exits) c.leave_body.ensures ∙ c.in_ok-exits.ensures.labels;
    })
