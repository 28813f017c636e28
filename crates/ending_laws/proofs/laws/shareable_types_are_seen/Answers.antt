use Rattle.ending_laws.proofs.Sharing.{shareable_types_are_seen}
use Rattle.ending_laws.proofs.laws.shareable_types_are_seen.Goals as goal

pub returns : goal.returns
returns c = shareable_types_are_seen
