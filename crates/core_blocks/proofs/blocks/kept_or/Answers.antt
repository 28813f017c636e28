use Rattle.std.proofs.Common.{suc, length, ap, ap₂, sym, subst, ℕ, ◌∙◌}
use Rattle.core_ir.specs.Expressions.{Exp}
use Rattle.core_ir.specs.View.{expression as core_expression}
use Rattle.typed_tree.specs.View.{expression}
use Rattle.elaboration.specs.Members.{Elaborated}
use Rattle.elaboration.specs.Scopes.{Scope, beside, inside}
use Rattle.core_parts.specs.Making.{IsMade}
use Rattle.core_parts.proofs.Going.{in_any_case, made_in, on_ok}
use Rattle.core_blocks.specs.Kept.{chosen}
use Rattle.core_blocks.proofs.Declaring.{kept_is}
use Rattle.core_blocks.proofs.blocks.kept_or.Goals as goal

pub returns-clause-made : goal.returns-clause-made
returns-clause-made g c =
    let s : Scope = c.args.scope.now in
    let t : Scope = inside (beside 1 s) in
    let there = c.in_ok-go_inside.ensures ∙ ap inside c.in_ok-go_beside.ensures in
    let inner = made_in c.go_inside.new.self t (length c.args.groups.now) (expression c.args.value.now) c.args.groups.now c.part.new.groups c.in_ok-inner.inner there c.in_ok-inner.ensures.made in
    let C : ℕ → Exp → Exp → Exp = λ l k v. chosen l (suc l) (suc (suc l)) k v in
    on_ok c.kept_chosen.result c.kept_chosen.ensures (λ made is.
    let Of : Elaborated → Type 0 = λ d. IsMade d c.args.groups.now c.part.new.groups made in
    subst Of (sym (kept_is s (length c.args.groups.now) c.args.kept (expression c.args.value.now)))
    (is ∙ (ap (λ (l : ℕ). C l (core_expression c.in_ok-kept.kept) (core_expression c.in_ok-inner.inner)) c.names-level.ensures ∙ ap₂ (λ (k v : Exp). C s.names k v) c.in_ok-kept.ensures inner.0), inner.1))

pub returns-clause-scope : goal.returns-clause-scope
returns-clause-scope g c =
    in_any_case c.kept_chosen.result (c.back.ensures.inside_beside c.args.scope.now 1 c.mark-mark.ensures (c.in_ok-inner.ensures.scope ∙ (c.in_ok-go_inside.ensures ∙ ap inside c.in_ok-go_beside.ensures)))
