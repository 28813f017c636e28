use Rattle.limited_runs.proofs.Shows.{shows}
use Rattle.limited_runs.proofs.laws.host_shows_texts.Goals as goal

pub returns : goal.returns
returns c = shows
