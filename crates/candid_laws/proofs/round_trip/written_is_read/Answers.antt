use Rattle.candid_laws.proofs.Back as back
use Rattle.candid_laws.proofs.round_trip.written_is_read.Goals as goal

pub returns : goal.returns
returns c = λ head types values bytes t s f h. back.written_is_read head types values bytes t s f h
