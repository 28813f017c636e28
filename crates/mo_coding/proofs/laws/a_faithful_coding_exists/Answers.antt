use Rattle.mo_coding.proofs.Faithful.{is_faithful}
use Rattle.mo_coding.proofs.laws.a_faithful_coding_exists.Goals as goal

pub returns : goal.returns
returns c = is_faithful
