use Rattle.mo_num.proofs.RoundTrip.{leb_back}
use Rattle.mo_num.proofs.leb_laws.leb_round_trip.Goals as goal

pub returns : goal.returns
returns c = leb_back
