use Rattle.std.proofs.Common.{◌∙◌, ap}
use Rattle.core_laws.specs.Uses.{with_use}
use Rattle.closure_conv.proofs.UseSets.{inserted}
use Rattle.closure_conv.proofs.uses.Uses.add.Goals as goal

pub returns : goal.returns
returns c = c.in_ok-insert.ensures.keys ∙ inserted c.args.place c.self.inside.places.keys ∙ ap (with_use c.args.place) c.self.view_is
