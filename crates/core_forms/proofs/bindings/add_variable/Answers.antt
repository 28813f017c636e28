use Rattle.std.proofs.Common.{ap, map, ◌∙◌}
use Rattle.core_ir.specs.declared.primitive.Primitive.TheVariants as primitive
use Rattle.core_ir.specs.View.{exps, expression}
use Rattle.elaboration.specs.Members.{does, let_in}
use Rattle.core_layers.specs.Layers.{layered}
use Rattle.core_layers.proofs.Holding.{let_behind}
use Rattle.core_forms.proofs.bindings.add_variable.Goals as goal

pub returns-clause-cell : goal.returns-clause-cell
returns-clause-cell c = λ fails e.
    let layers = c.args.layers.items in
    ap (λ ls. layered ls fails e) c.in_ok-push.ensures.items ∙ let_behind layers c.in_ok-cell.cell fails e
    ∙ ap (λ x. layered layers fails (let_in x e)) (c.in_ok-cell.ensures ∙ ap (λ es. does primitive.New (exps (map expression es))) c.in_ok-one.ensures)
