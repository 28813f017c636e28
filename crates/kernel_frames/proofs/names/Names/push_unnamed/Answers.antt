use Rattle.std.proofs.Common.{◌∙◌, List, ◌∷◌, ap}
use Rattle.desugaring.specs.Frames.{Entry, Unnamed}
use Rattle.kernel_frames.specs.Places.{entries}
use Rattle.kernel_frames.proofs.Rebuilding.{are_places, unnamed_more, stands_for}
use Rattle.kernel_frames.proofs.names.Names.push_unnamed.Goals as goal

pub invariant_of-self : goal.invariant_of-self
invariant_of-self c = are_places (Unnamed ∷ (entries c.self.inside.all c.self.inside.values c.self.inside.kept)) c.in_ok-self-inside.field-0 c.self.inside.values c.self.inside.kept (unnamed_more (entries c.self.inside.all c.self.inside.values c.self.inside.kept) c.self.inside.all c.in_ok-self-inside.field-0 c.self.inside.values c.self.inside.kept c.self.invariant c.in_ok-self-inside.ensures)

pub returns : goal.returns
returns c = stands_for (Unnamed ∷ (entries c.self.inside.all c.self.inside.values c.self.inside.kept)) c.in_ok-self-inside.field-0 c.self.inside.values c.self.inside.kept (unnamed_more (entries c.self.inside.all c.self.inside.values c.self.inside.kept) c.self.inside.all c.in_ok-self-inside.field-0 c.self.inside.values c.self.inside.kept c.self.invariant c.in_ok-self-inside.ensures) ∙ ap (λ (es : List Entry). Unnamed ∷ es) c.self.view_is
