use Rattle.std.proofs.Common.{ap, sym, ◌∙◌}
use Rattle.core_ir.specs.View.{expression}
use Rattle.core_layers.specs.Layers.{held, layer, pending, seen_fails}
use Rattle.core_layers.proofs.Holding.{held_more}
use Rattle.core_layers.proofs.nesting.within.Goals as goal

pub returns-in_ok-push-in-Binding : goal.returns-in_ok-push-in-Binding
returns-in_ok-push-in-Binding c =
    let value = expression c.args.inner.value in
    ap (λ bs. held bs value) c.in_ok-push-in-Binding.ensures.items ∙ held_more c.args.inner.bindings.items c.in-Binding.binding value
    ∙ ap (λ o. layer o (seen_fails c.args.fails) (pending c.args.inner)) (sym c.in-Binding.is)
