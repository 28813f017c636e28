use Rattle.std.proofs.Common.{◌++◌, ◌-◌, ℕ, List, ap, ap₂, ◌∙◌}
use Rattle.typed_tree.specs.PatternView.{patterns}
use Rattle.typed_tree.specs.ProgramView.{context_pattern}
use Rattle.elaboration.specs.Checks.{locals}
use Rattle.elaboration.specs.Scopes.{Scope}
use Rattle.core_methods.proofs.Serving.{both_bound}
use Rattle.core_methods.proofs.contexts.bind_context.Goals as goal

pub returns-clause-checks : goal.returns-clause-checks
returns-clause-checks c =
    (both_bound (context_pattern c.args.context.now) (patterns c.args.parameters.now) c.args.scope.now.names c.saturating_sub-level.result c.saturating_sub.result c.new-checked.result c.add_context.new.checked c.add_parameters.new.checked
    (c.saturating_sub-level.ensures ∙ ap (λ (k : ℕ). k - 1) c.names-names.ensures) c.saturating_sub.ensures (c.new-checked.ensures.names ∙ c.names-names.ensures) c.new-checked.ensures.layers c.new-checked.ensures.bound
    c.in_ok-add_context.ensures c.in_ok-add_parameters.ensures).checks

pub returns-clause-scope : goal.returns-clause-scope
returns-clause-scope c =
    let s : Scope = c.args.scope.now in
    let both = both_bound (context_pattern c.args.context.now) (patterns c.args.parameters.now) s.names c.saturating_sub-level.result c.saturating_sub.result c.new-checked.result c.add_context.new.checked c.add_parameters.new.checked
    (c.saturating_sub-level.ensures ∙ ap (λ (k : ℕ). k - 1) c.names-names.ensures) c.saturating_sub.ensures (c.new-checked.ensures.names ∙ c.names-names.ensures) c.new-checked.ensures.layers c.new-checked.ensures.bound
    c.in_ok-add_context.ensures c.in_ok-add_parameters.ensures in
    c.in_ok-go_behind.ensures ∙ ap₂ (λ (b : List ℕ) (n : ℕ). record { places = locals b ++ s.places; names = n; exits = s.exits; labels = s.labels }) (c.as_slice.ensures.value ∙ both.bound) both.names
