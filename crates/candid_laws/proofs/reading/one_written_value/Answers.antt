use Rattle.candid_laws.proofs.Unique.{one_written}
use Rattle.candid_laws.proofs.reading.one_written_value.Goals as goal

pub returns : goal.returns
returns c = λ head types bytes v w t u h k. one_written head types bytes v w t u h k
