use Rattle.std.proofs.Common.{[], ◌∷◌, ◌+◌, suc, length, ap, ap₂, subst, ℕ, ◌∙◌, arith, ◌≡◌}
use Rattle.std.specs.Prelude.{replicate}
use Rattle.core_ir.specs.Expressions as core
use Rattle.core_ir.specs.View.{core_body, expression}
use Rattle.typed_tree.specs.View.{function}
use Rattle.elaboration.specs.Checks.{locals}
use Rattle.elaboration.specs.Members.{let_in}
use Rattle.elaboration.specs.Programs.{tuple, values_of}
use Rattle.elaboration.specs.Scopes.{Scope, Nowhere, beside}
use Rattle.core_parts.specs.Making.{Added, BodyMade, elaborate_body}
use Rattle.core_parts.proofs.Going.{on_ok}
use Rattle.core_hooks.specs.Hooks.{on_upgrade}
use Rattle.core_hooks.proofs.Ends.{hook_ends, under_functions}
use Rattle.core_hooks.proofs.starts.behind_hook.Goals as goal

pub returns : goal.returns
returns c =
    let s : Scope = c.args.scope.now in
    let k : ℕ = c.args.functions in
    let more : 1 + s.names ≡ suc s.names = omega arith in
    let there = c.in_ok-go_beside.ensures ∙ (ap (beside 1) c.in_ok-add_unknown.ensures ∙ ap (λ (n : ℕ). record (under_functions k s) { names = n }) more) in
    let Of : Scope → Type 0 = λ t. BodyMade (elaborate_body t (length c.args.groups.now) (function c.args.hook.now)) c.args.groups.now c.body.new.groups c.in_ok-body.body in
    let body = subst Of there c.in_ok-body.ensures.made in
    let gone = c.in_ok-body.ensures.scope ∙ there in
    let behind = c.back.ensures.within s c.mark-mark.ensures (record { names = replicate k Nowhere; labels = []; places = ap (λ (t : Scope). t.places) gone; exits = ap (λ (t : Scope). t.exits) gone }) in
    let last = c.in_ok-go_beside-2.ensures ∙ ap (beside 2) behind in
    let With : ℕ → Type 0 = λ n. Added (record { sees = n; bodies = core_body c.in_ok-body.body ∷ [] } ∷ []) c.body.new.groups c.add_one.new.groups in
    let added = subst With c.names-sees.ensures c.in_ok-number.ensures.added in
    on_ok c.behind_call.result c.behind_call.ensures (λ made is. λ levels others places count.
    let given = c.in_ok-given.ensures levels others (ap (λ (t : Scope). t.places) last ∙ places) count ∙ ap (λ (t : Scope). tuple (values_of t.names (locals levels))) last in
    let calls = c.in_ok-calls.ensures ∙ ap on_upgrade (c.in_ok-one_more.ensures ∙ ap suc c.names-sees.ensures) in
    hook_ends s k c.args.hook.now levels c.args.groups.now c.body.new.groups c.add_one.new.groups c.in_ok-body.body made body added
    (is ∙ (ap (λ (m : ℕ). core.Functions m (let_in (expression c.in_ok-calls.calls) (expression c.in_ok-given.given))) c.in_ok-number.ensures.number ∙ ap₂ (λ (x y : core.Exp). core.Functions (length c.body.new.groups) (let_in x y)) calls given)))
