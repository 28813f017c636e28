use Rattle.std.proofs.Common.{◌≡◌, ◌∙◌, ap, sym}
use Rattle.body_lists.proofs.Sizes.{pushed}
use Rattle.body_lists.proofs.groups.GroupSizes.push.Goals as goal

pub invariant_of-self-2 : goal.invariant_of-self-2
invariant_of-self-2 c = pushed c.self.inside.groups.items c.push.new.self.items c.self.inside.all c.args.size c.in-Some.all c.in_ok-push.ensures.items c.self.invariant (c.in-Some.ensures.1)
