use Rattle.std.proofs.Common.{◌≡◌, Option, ℕ, ◌+◌, length, ap, ap₂, sym, subst, append-nil, ◌∙◌}
use Rattle.core_ir.specs.Expressions.{Exp}
use Rattle.core_ir.specs.View.{expression}
use Rattle.typed_tree.specs.declared.expression.Function.{Function}
use Rattle.typed_tree.specs.View.{FunctionView}
use Rattle.elaboration.specs.Members.{let_in}
use Rattle.elaboration.specs.Programs.{held_in, hook_exp, save_of}
use Rattle.elaboration.specs.Scopes.{Scope}
use Rattle.core_members.specs.Seen.{seen_groups}
use Rattle.core_parts.specs.Making.{Added, IsMade}
use Rattle.core_blocks.proofs.Writing.{function_is}
use Rattle.core_hooks.specs.Hooks.{cells_behind, hook_view, optional_hook}
use Rattle.core_hooks.proofs.saves.save_body.Goals as goal

pub returns-in-None : goal.returns-in-None
returns-in-None c = λ places at.
    let n : ℕ = length c.args.groups.now in
    let kept : ℕ = length c.args.stable.now in
    let cells = held_in places (cells_behind c.args.functions c.args.stable.now) in
    let Of : Option Function → Type 0 = λ o.
    (record { parameters = 0; nodes = c.in_ok-kept.kept; expression = expression c.in_ok-cells.cells } ≡ (save_of kept places n (optional_hook o) cells).body) × Added (save_of kept places n (optional_hook o) cells).groups c.args.groups.now c.args.groups.now in
    subst Of (sym c.in-None.is) (ap₂ (λ (k : ℕ) (e : Exp). record { parameters = 0; nodes = k; expression = e }) c.in_ok-kept.ensures (c.in_ok-cells.ensures places at), sym (append-nil (seen_groups c.args.groups.now)))

pub returns-in_ok-expression-in-Some : goal.returns-in_ok-expression-in-Some
returns-in_ok-expression-in-Some c = λ places at.
    let n : ℕ = length c.args.groups.now in
    let kept : ℕ = length c.args.stable.now in
    let cells = held_in places (cells_behind c.args.functions c.args.stable.now) in
    let h = hook_view c.in-Some.written in
    let There : Scope → Type 0 = λ s. IsMade (hook_exp s n h) c.args.groups.now c.hook_value.new.groups c.in_ok-value-in-Some.value in
    let one = subst There at (c.in_ok-value-in-Some.ensures.made places at) in
    let nodes = c.in_ok-nodes-in-Some.ensures ∙ ap₂ (λ j k. j + k) c.in_ok-kept.ensures (sym (ap (λ (f : FunctionView). f.nodes) (function_is c.in-Some.written))) in
    let whole = c.in_ok-expression-in-Some.ensures ∙ ap₂ let_in one.0 (c.in_ok-cells.ensures places at) in
    let Of : Option Function → Type 0 = λ o.
    (record { parameters = 0; nodes = c.in_ok-nodes-in-Some.nodes; expression = expression c.in_ok-expression-in-Some.expression } ≡ (save_of kept places n (optional_hook o) cells).body)
    × Added (save_of kept places n (optional_hook o) cells).groups c.args.groups.now c.hook_value.new.groups in
    subst Of (sym c.in-Some.is) (ap₂ (λ (k : ℕ) (e : Exp). record { parameters = 0; nodes = k; expression = e }) nodes whole, one.1)
