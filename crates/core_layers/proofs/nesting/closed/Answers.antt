use Rattle.std.proofs.Common.{ap, ◌∙◌}
use Rattle.core_ir.specs.View.{expression}
use Rattle.core_layers.specs.Layers.{held}
use Rattle.core_layers.proofs.Views.{block_is}
use Rattle.core_layers.proofs.nesting.closed.Goals as goal

pub returns : goal.returns
returns c = block_is c.in_ok-in_order.field-0 c.in_ok-new.field-0 ∙ c.in_ok-in_order.ensures (expression c.in_ok-new.field-0) ∙ ap (λ v. held c.args.inner.bindings.items (expression v)) c.in_ok-new.ensures
