use Rattle.std.proofs.Common.{◌∙◌, sym}
use Rattle.kernel_frames.specs.Places.{entries}
use Rattle.kernel_frames.proofs.Rebuilding.{are_places, cut_to, stands_for}
use Rattle.kernel_frames.proofs.names.Names.truncate.Goals as goal

pub invariant_of-self : goal.invariant_of-self
invariant_of-self c =
    are_places c.requires.before c.args.mark.all c.truncate.new.self c.truncate-2.new.self
    (cut_to (entries c.self.inside.all c.self.inside.values c.self.inside.kept) c.requires.more c.requires.before c.self.inside.all c.self.inside.values c.truncate.new.self c.self.inside.kept c.truncate-2.new.self c.args.mark c.self.invariant
    (c.self.view_is ∙ c.requires.whole) c.requires.mark c.truncate.ensures.back c.truncate-2.ensures.back)

pub returns : goal.returns
returns c = λ more before e m.
    stands_for before c.args.mark.all c.truncate.new.self c.truncate-2.new.self
    (cut_to (entries c.self.inside.all c.self.inside.values c.self.inside.kept) more before c.self.inside.all c.self.inside.values c.truncate.new.self c.self.inside.kept c.truncate-2.new.self c.args.mark c.self.invariant
    (c.self.view_is ∙ e) m c.truncate.ensures.back c.truncate-2.ensures.back)
