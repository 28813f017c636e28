use Rattle.installed_actors.proofs.Installing.{installs}
use Rattle.installed_actors.proofs.laws.installs.Goals as goal

pub returns : goal.returns
returns g c = installs _
