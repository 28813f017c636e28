use Rattle.std.proofs.Common.{ap, ◌∙◌}
use Rattle.core_ir.specs.Expressions as core
use Rattle.core_ir.specs.View.{expression}
use Rattle.elaboration.specs.Checks.{fails}
use Rattle.core_layers.specs.Layers.{layered}
use Rattle.core_parts.proofs.Going.{on_ok}
use Rattle.core_hooks.proofs.starts.behind_call.Goals as goal

pub returns : goal.returns
returns c =
    let rest = expression c.in_ok-rest.rest in
    on_ok c.around.result c.around.ensures (λ made is.
    is ∙ (c.in_ok-layers.ensures fails rest ∙ (ap (λ ls. layered ls fails (core.Functions c.args.number rest)) c.new.ensures.items ∙ ap (λ (e : core.Exp). core.Functions c.args.number e) c.in_ok-rest.ensures)))
