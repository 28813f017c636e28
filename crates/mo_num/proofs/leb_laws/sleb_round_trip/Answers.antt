use Rattle.mo_num.proofs.RoundTrip.{sleb_back}
use Rattle.mo_num.proofs.leb_laws.sleb_round_trip.Goals as goal

pub returns : goal.returns
returns c = sleb_back
