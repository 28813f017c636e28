use Rattle.std.proofs.Common.{◌≡◌, suc, List, [], length, ap, ap₂, sym, subst, ℕ, ◌-◌, ◌∙◌}
use Rattle.core_ir.specs.Expressions.{Body, Exp}
use Rattle.core_ir.specs.View.{expression as core_expression}
use Rattle.typed_tree.specs.declared.pattern.TypedPattern.{TypedPattern}
use Rattle.typed_tree.specs.Patterns.{Pats, APat}
use Rattle.typed_tree.specs.PatternView.{patterns}
use Rattle.typed_tree.specs.ProgramView.{context_pattern}
use Rattle.typed_tree.specs.View.{FunctionView, expression}
use Rattle.elaboration.specs.Checks.{Checked, around_all, behind, check_all, fails, locals}
use Rattle.elaboration.specs.Elaboration.{number_of_parameters, on_parameters}
use Rattle.elaboration.specs.Scopes.{Scope, in_body}
use Rattle.core_parts.specs.Making.{Added, elaborate_body}
use Rattle.core_parts.proofs.Going.{made_in}
use Rattle.core_blocks.proofs.Writing.{parameters_are}
use Rattle.core_methods.proofs.Serving.{method_is}
use Rattle.core_methods.proofs.methods.method_body.Goals as goal

pub returns-clause-made : goal.returns-clause-made
returns-clause-made c =
    let s : Scope = c.args.scope.now in
    let ps : Pats = APat (context_pattern c.args.method.now.context) (patterns c.args.method.now.function.parameters) in
    let n : ℕ = number_of_parameters ps in
    let d : Checked = on_parameters ps s in
    let t : Scope = in_body n s in
    let b = expression c.args.method.now.function.body in
    let count = c.in_ok-parameters.ensures ∙ ap suc (c.in_ok-count.ensures ∙ (c.len.ensures ∙ sym (parameters_are c.args.method.now.function.parameters))) in
    let there = c.in_ok-exits.ensures.body ∙ ap (λ (k : ℕ). in_body k s) count in
    let At : List TypedPattern → Scope → Checked = λ xs u. check_all (APat (context_pattern c.args.method.now.context) (patterns xs)) (u.names - 1) u.names in
    let inner = made_in c.bind_context.new.scope (behind d t) (length c.args.groups.now) b c.args.groups.now c.expression.new.groups c.in_ok-inner.inner (c.in_ok-checks.ensures.scope ∙ ap₂ (λ (xs : List TypedPattern) (u : Scope). behind (At xs u) u) c.as_slice.ensures there) c.in_ok-inner.ensures.made in
    let whole =
    c.in_ok-expression.ensures ∙ (c.in_ok-checks.ensures.checks fails (core_expression c.in_ok-inner.inner)
    ∙ (ap₂ (λ (xs : List TypedPattern) (u : Scope). around_all (At xs u).checks fails (core_expression c.in_ok-inner.inner)) c.as_slice.ensures there ∙ ap (λ (x : Exp). around_all d.checks fails x) inner.0)) in
    let x : Exp = core_expression c.in_ok-expression.expression in
    let Of : FunctionView → Type 0 = λ f. record { parameters = c.in_ok-parameters.parameters; nodes = c.args.method.now.function.nodes; expression = x } ≡ (elaborate_body s (length c.args.groups.now) f).body in
    let And : FunctionView → Type 0 = λ f. Added (elaborate_body s (length c.args.groups.now) f).groups c.args.groups.now c.expression.new.groups in
    (subst Of (sym (method_is c.args.method.now)) (ap₂ (λ (k : ℕ) (y : Exp). record { parameters = k; nodes = c.args.method.now.function.nodes; expression = y }) count whole), subst And (sym (method_is c.args.method.now)) inner.1)

pub returns-clause-scope : goal.returns-clause-scope
returns-clause-scope c =
    let d : Checked = check_all (APat (context_pattern c.args.method.now.context) (patterns c.as_slice.result.now)) (c.enter_body.new.self.names - 1) c.enter_body.new.self.names in
    let there = c.in_ok-inner.ensures.scope ∙ c.in_ok-checks.ensures.scope in
    c.back.ensures.within c.args.scope.now c.mark-mark.ensures (record {
      names = locals d.bound;
      labels = [];
      places = ap (λ (u : Scope). u.places) c.leave_body.ensures ∙ (ap (λ (u : Scope). u.places) there ∙ ap (λ (u : Scope). (behind d u).places) c.in_ok-exits.ensures.body);
      exits = ap (λ (u : Scope). u.exits) c.leave_body.ensures ∙ c.in_ok-exits.ensures.labels;
    })
