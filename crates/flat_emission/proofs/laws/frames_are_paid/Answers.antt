use Rattle.flat_emission.proofs.Paid.{frames_paid}
use Rattle.flat_emission.proofs.laws.frames_are_paid.Goals as goal

pub returns : goal.returns
returns c = frames_paid
