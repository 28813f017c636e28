use Rattle.std.proofs.Common.{◌∙◌, ap}
use Rattle.body_lists.specs.Counted.{all_of}
use Rattle.body_lists.proofs.Sizes.{all_counted}
use Rattle.body_lists.proofs.groups.GroupSizes.all.Goals as goal

pub returns : goal.returns
returns c = all_counted c.self.inside.groups.items c.self.inside.all c.self.invariant ∙ ap all_of c.self.view_is
