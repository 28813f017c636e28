use Rattle.std.proofs.Common.{◌∙◌}
use Rattle.mo_name_table.proofs.Finding.{found}
use Rattle.type_scopes.proofs.names.NamePlaces.find.Goals as goal

pub returns-clause-within : goal.returns-clause-within
returns-clause-within c = found c.place_of.result c.self.inside.names.items c.args.self.now c.args.name.now (c.place_of.ensures ∙ c.self.invariant.0 c.args.name.now) c.self.view_is
