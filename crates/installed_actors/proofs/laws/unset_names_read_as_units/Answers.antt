use Rattle.installed_actors.proofs.Padded.{unset_as_units}
use Rattle.installed_actors.proofs.laws.unset_names_read_as_units.Goals as goal

pub returns : goal.returns
returns g c = unset_as_units _
