use Rattle.shareable_types.proofs.Staying.{stays}
use Rattle.shareable_types.proofs.laws.sharing_stays.Goals as goal

pub returns : goal.returns
returns c = stays
