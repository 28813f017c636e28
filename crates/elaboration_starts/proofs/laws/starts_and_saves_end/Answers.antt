use Rattle.elaboration_starts.proofs.Following.{installs_end_too, upgrades_end_too}
use Rattle.elaboration_starts.proofs.Keeping.{saves_end}
use Rattle.elaboration_starts.proofs.laws.starts_and_saves_end.Goals as goal

pub returns-clause-installs : goal.returns-clause-installs
returns-clause-installs c = installs_end_too

pub returns-clause-upgrades : goal.returns-clause-upgrades
returns-clause-upgrades c = upgrades_end_too

pub returns-clause-saves : goal.returns-clause-saves
returns-clause-saves c = saves_end
