use Rattle.std.proofs.Common.{◌≡◌, ◌+◌, map, ap, ◌∙◌, arith}
use Rattle.std.specs.Prelude.{slice_get}
use Rattle.core_ir.specs.declared.primitive.Primitive.TheVariants as primitive
use Rattle.core_ir.specs.Expressions as core
use Rattle.core_ir.specs.View.{exps, expression}
use Rattle.elaboration.specs.Members.{does}
use Rattle.elaboration.specs.Scopes.{Scope, at_place, one, place_or_nowhere, read_name}
use Rattle.core_parts.proofs.Going.{on_ok}
use Rattle.core_hooks.proofs.saves.held.Goals as goal

pub returns : goal.returns
returns c =
    let sum : c.in-Some.index ≡ c.args.functions + c.args.variable.now.cell = omega arith in
    on_ok c.does.result c.does.ensures (λ made is. λ places at.
    is ∙ (ap (λ es. does primitive.Read (exps (map expression es))) c.in_ok-one.ensures
    ∙ ap (λ (y : core.Exp). does primitive.Read (one y)) (c.in_ok-cell.ensures ∙ (ap (λ (s : Scope). read_name s c.in-Some.index) at ∙ ap (λ i. at_place 0 (place_or_nowhere (slice_get places i))) sum))))
