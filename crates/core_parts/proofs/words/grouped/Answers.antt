use Rattle.std.proofs.Common.{ap, ◌∙◌}
use Rattle.core_layers.specs.Layers.{layered}
use Rattle.core_parts.proofs.Going.{functions_behind}
use Rattle.core_parts.proofs.words.grouped.Goals as goal

pub returns : goal.returns
returns c = λ fails e. ap (λ ls. layered ls fails e) c.in_ok-push.ensures.items ∙ functions_behind c.args.layers.items c.args.number fails e
