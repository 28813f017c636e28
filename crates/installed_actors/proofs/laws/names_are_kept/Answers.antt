use Rattle.installed_actors.proofs.Keeping.{names_kept}
use Rattle.installed_actors.proofs.laws.names_are_kept.Goals as goal

pub returns : goal.returns
returns g c = names_kept _
