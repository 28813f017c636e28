use Rattle.memory_routines.proofs.Stays.{heaps_stay}
use Rattle.memory_routines.proofs.laws.heaps_stay_heaps.Goals as goal

pub returns : goal.returns
returns c = heaps_stay
