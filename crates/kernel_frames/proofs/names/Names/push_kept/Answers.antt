use Rattle.std.proofs.Common.{◌∙◌, List, ◌∷◌, ap}
use Rattle.desugaring.specs.Frames.{Entry, Kept}
use Rattle.kernel_frames.specs.Places.{entries}
use Rattle.kernel_frames.proofs.Rebuilding.{are_places, kept_more, stands_for}
use Rattle.kernel_frames.proofs.names.Names.push_kept.Goals as goal

pub invariant_of-self-2 : goal.invariant_of-self-2
invariant_of-self-2 c = are_places (Kept c.args.name.now ∷ (entries c.self.inside.all c.self.inside.values c.self.inside.kept)) c.in_ok-more.more c.self.inside.values c.push.new.self (kept_more (entries c.self.inside.all c.self.inside.values c.self.inside.kept) c.self.inside.all c.in_ok-more.more c.self.inside.values c.self.inside.kept c.self.invariant c.in_ok-more.ensures c.args.name.now c.push.new.self c.in_ok-push.ensures.ok)

pub returns : goal.returns
returns c = stands_for (Kept c.args.name.now ∷ (entries c.self.inside.all c.self.inside.values c.self.inside.kept)) c.in_ok-more.more c.self.inside.values c.push.new.self (kept_more (entries c.self.inside.all c.self.inside.values c.self.inside.kept) c.self.inside.all c.in_ok-more.more c.self.inside.values c.self.inside.kept c.self.invariant c.in_ok-more.ensures c.args.name.now c.push.new.self c.in_ok-push.ensures.ok) ∙ ap (λ (es : List Entry). Kept c.args.name.now ∷ es) c.self.view_is
