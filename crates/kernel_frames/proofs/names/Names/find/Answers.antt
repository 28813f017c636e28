use Rattle.std.proofs.Common.{List, false, subst, refl}
use Rattle.desugaring.specs.Frames.{Entry}
use Rattle.kernel_frames.specs.Places.{IsUse, entries}
use Rattle.kernel_frames.proofs.Found.{no_value_found, place_within, value_found}
use Rattle.kernel_frames.proofs.names.Names.find.Goals as goal

pub between-requires : goal.between-requires
between-requires c = place_within (entries c.self.inside.all c.self.inside.values c.self.inside.kept) c.self.inside.all c.self.inside.values c.self.inside.kept c.self.invariant c.args.name.now c.in-Some.found.now c.in-Some.ensures

pub returns-in-Some : goal.returns-in-Some
returns-in-Some c =
    subst (λ (es : List Entry). IsUse es c.args.name.now (record { index = c.between.result; is_cell = c.in-Some.found.now.is_cell })) c.self.view_is
    (value_found (entries c.self.inside.all c.self.inside.values c.self.inside.kept) c.self.inside.all c.self.inside.values c.self.inside.kept c.self.invariant c.args.name.now c.in-Some.found.now (record { index = c.between.result; is_cell = c.in-Some.found.now.is_cell }) c.in-Some.ensures c.between.ensures refl)

pub returns-in-None : goal.returns-in-None
returns-in-None c =
    subst (λ (es : List Entry). IsUse es c.args.name.now (record { index = c.self.inside.all; is_cell = false })) c.self.view_is
    (no_value_found (entries c.self.inside.all c.self.inside.values c.self.inside.kept) c.self.inside.all c.self.inside.values c.self.inside.kept c.self.invariant c.args.name.now (record { index = c.self.inside.all; is_cell = false }) c.in-None.ensures refl refl)
