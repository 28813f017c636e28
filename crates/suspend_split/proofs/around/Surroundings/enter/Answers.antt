use Rattle.std.proofs.Common.{◌∙◌, ◌∷◌, [], ap}
use Rattle.suspend_split.specs.Kinds.{kind, stacked}
use Rattle.suspend_split.proofs.Stacks.{stacked_push}
use Rattle.suspend_split.proofs.around.Surroundings.enter.Goals as goal

pub returns : goal.returns
returns c = ap (stacked []) c.in_ok-push.ensures.items ∙ stacked_push [] c.self.inside.kinds.items c.args.around ∙ ap (λ ls. kind c.args.around ∷ ls) c.self.view_is
