use Rattle.candid_laws.proofs.Back as back
use Rattle.candid_laws.proofs.round_trip.read_is_read_again.Goals as goal

pub returns : goal.returns
returns c = λ head types values bytes again h s k. back.written_is_read head types values again h.typed s (back.read_is_few head types values bytes h) k
