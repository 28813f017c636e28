use Rattle.std.proofs.Common.{List, [], ◌∷◌, suc, length, ap, ap₂, sym, subst, ℕ, ◌-◌, ◌∙◌}
use Rattle.core_ir.specs.Expressions.{Exp, Label}
use Rattle.core_ir.specs.View.{expression as core_expression}
use Rattle.typed_tree.specs.declared.pattern.TypedPattern.{TypedPattern}
use Rattle.typed_tree.specs.PatternView.{patterns}
use Rattle.typed_tree.specs.View.{FunctionView, expression}
use Rattle.elaboration.specs.Checks.{Checked, around_all, behind, check_all, fails, locals}
use Rattle.elaboration.specs.Elaboration.{elaborate, number_of_parameters, on_parameters}
use Rattle.elaboration.specs.Programs.{hook_exp}
use Rattle.elaboration.specs.Scopes.{Scope, beside, labelled}
use Rattle.core_parts.specs.Making.{IsMade}
use Rattle.core_parts.proofs.Going.{in_any_case, made_in, on_ok, one_made}
use Rattle.core_blocks.proofs.Writing.{function_is, parameters_are}
use Rattle.core_hooks.proofs.saves.hook_value.Goals as goal

pub returns-clause-made : goal.returns-clause-made
returns-clause-made c =
    let s : Scope = c.args.scope.now in
    let ps = patterns c.args.hook.now.parameters in
    let n : ℕ = number_of_parameters ps in
    let d : Checked = on_parameters ps s in
    let b = expression c.args.hook.now.body in
    let count = c.in_ok-parameters.ensures ∙ (c.len.ensures ∙ sym (parameters_are c.args.hook.now.parameters)) in
    let there = c.in_ok-go_beside.ensures ∙ (ap (λ (t : Scope). beside c.in_ok-parameters.parameters t) c.in_ok-add_label.ensures ∙ ap (λ (k : ℕ). beside k (labelled s)) count) in
    let At : List TypedPattern → Scope → Checked = λ xs u. check_all (patterns xs) (u.names - 1) u.names in
    let e : Exp = core_expression c.in_ok-inner.inner in
    on_ok c.labelled.result c.labelled.ensures (λ made is. λ places at.
    let inside : Scope = record (behind d s) { exits = 0 ∷ []; labels = 1 } in
    let here = ap (λ (t : Scope). record (behind d s) { exits = t.labels ∷ t.exits; labels = suc t.labels }) at in
    let Of : FunctionView → Type 0 = λ f. IsMade (hook_exp s (length c.args.groups.now) (record { nodes = f.nodes; parameters = f.parameters; body = f.body })) c.args.groups.now c.expression.new.groups made in
    subst Of (sym (function_is c.args.hook.now))
    (one_made (λ x. Label (around_all d.checks fails x)) (elaborate inside (length c.args.groups.now) b) c.args.groups.now c.expression.new.groups c.in_ok-inner.inner made
    (made_in c.bind_parameters.new.scope inside (length c.args.groups.now) b c.args.groups.now c.expression.new.groups c.in_ok-inner.inner
    (c.in_ok-checks.ensures.scope ∙ (ap₂ (λ (xs : List TypedPattern) (u : Scope). behind (At xs u) u) c.as_slice.ensures there ∙ here)) c.in_ok-inner.ensures.made)
    (is ∙ ap (λ (x : Exp). Label x) (c.in_ok-inside.ensures ∙ (c.in_ok-checks.ensures.checks fails e ∙ ap₂ (λ (xs : List TypedPattern) (u : Scope). around_all (At xs u).checks fails e) c.as_slice.ensures there)))))

pub returns-clause-scope : goal.returns-clause-scope
returns-clause-scope c =
    let d : Checked = check_all (patterns c.as_slice.result.now) (c.go_beside.new.self.names - 1) c.go_beside.new.self.names in
    let there = c.in_ok-inner.ensures.scope ∙ (c.in_ok-checks.ensures.scope ∙ ap (behind d) (c.in_ok-go_beside.ensures ∙ ap (λ (t : Scope). beside c.in_ok-parameters.parameters t) c.in_ok-add_label.ensures)) in
    in_any_case c.labelled.result (c.back.ensures.within c.args.scope.now c.mark-mark.ensures (record {
      names = locals d.bound;
      labels = c.args.scope.now.labels ∷ [];
      places = ap (λ (t : Scope). t.places) there;
      exits = ap (λ (t : Scope). t.exits) there;
    }))
