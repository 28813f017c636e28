use Rattle.std.proofs.Common.{◌∙◌, ap, sym}
use Rattle.core_laws.specs.Conversion.{index}
use Rattle.closure_conv.proofs.UseSets.{index_found, index_missing}
use Rattle.closure_conv.proofs.uses.Uses.index.Goals as goal

pub returns-in-Some : goal.returns-in-Some
returns-in-Some c = index_found c.args.place c.in-Some.index c.self.inside.places.keys (sym c.in-Some.ensures.index) ∙ ap (index c.args.place) c.self.view_is

pub returns-in-None : goal.returns-in-None
returns-in-None c = c.len.ensures.len ∙ index_missing c.args.place c.self.inside.places.keys (sym c.in-None.ensures.index) ∙ ap (index c.args.place) c.self.view_is
