use Rattle.std.proofs.Common.{ap, ◌∙◌}
use Rattle.core_layers.specs.Layers.{layered}
use Rattle.core_layers.proofs.Holding.{let_behind}
use Rattle.core_parts.proofs.words.under_value.Goals as goal

pub returns : goal.returns
returns c = λ fails e. ap (λ ls. layered ls fails e) c.in_ok-push.ensures.items ∙ let_behind c.args.layers.items c.args.value fails e
