use Rattle.std.proofs.Common.{◌∙◌, List, ap, refl}
use Rattle.desugaring.specs.Frames.{Entry}
use Rattle.kernel_frames.specs.Places.{entries, kept_in}
use Rattle.kernel_frames.proofs.Found.{kept_found, kept_within, not_kept}
use Rattle.kernel_frames.proofs.names.Names.find_kept.Goals as goal

pub between-requires : goal.between-requires
between-requires c = kept_within (entries c.self.inside.all c.self.inside.values c.self.inside.kept) c.self.inside.all c.self.inside.values c.self.inside.kept c.self.invariant c.args.name.now c.in-Some.place.now c.in-Some.ensures

pub returns-in-Some : goal.returns-in-Some
returns-in-Some c =
    kept_found (entries c.self.inside.all c.self.inside.values c.self.inside.kept) c.self.inside.all c.self.inside.values c.self.inside.kept c.self.invariant c.args.name.now c.in-Some.place.now c.between.result c.in-Some.ensures c.between.ensures ∙ ap (λ (es : List Entry). kept_in es c.args.name.now) c.self.view_is

pub returns-in-None : goal.returns-in-None
returns-in-None c = not_kept (entries c.self.inside.all c.self.inside.values c.self.inside.kept) c.self.inside.all c.self.inside.values c.self.inside.kept c.self.invariant c.args.name.now c.self.inside.all c.in-None.ensures refl ∙ ap (λ (es : List Entry). kept_in es c.args.name.now) c.self.view_is
