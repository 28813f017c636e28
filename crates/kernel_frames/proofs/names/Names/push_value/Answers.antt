use Rattle.std.proofs.Common.{◌∙◌, List, ◌∷◌, ap}
use Rattle.desugaring.specs.Frames.{Entry, Named}
use Rattle.kernel_frames.specs.Places.{entries}
use Rattle.kernel_frames.proofs.Rebuilding.{are_places, value_more, stands_for}
use Rattle.kernel_frames.proofs.names.Names.push_value.Goals as goal

pub invariant_of-self-2 : goal.invariant_of-self-2
invariant_of-self-2 c = are_places (Named c.args.name.now c.args.is_cell ∷ (entries c.self.inside.all c.self.inside.values c.self.inside.kept)) c.in_ok-more.more c.push.new.self c.self.inside.kept (value_more (entries c.self.inside.all c.self.inside.values c.self.inside.kept) c.self.inside.all c.in_ok-more.more c.self.inside.values c.self.inside.kept c.self.invariant c.in_ok-more.ensures c.args.name.now c.args.is_cell c.push.new.self c.in_ok-push.ensures.ok)

pub returns : goal.returns
returns c = stands_for (Named c.args.name.now c.args.is_cell ∷ (entries c.self.inside.all c.self.inside.values c.self.inside.kept)) c.in_ok-more.more c.push.new.self c.self.inside.kept (value_more (entries c.self.inside.all c.self.inside.values c.self.inside.kept) c.self.inside.all c.in_ok-more.more c.self.inside.values c.self.inside.kept c.self.invariant c.in_ok-more.ensures c.args.name.now c.args.is_cell c.push.new.self c.in_ok-push.ensures.ok) ∙ ap (λ (es : List Entry). Named c.args.name.now c.args.is_cell ∷ es) c.self.view_is
