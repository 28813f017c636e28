use Rattle.mo_values.proofs.Recoded.{kept, twice}
use Rattle.mo_values.proofs.laws.recodings_compose.Goals as goal

pub returns-clause-same : goal.returns-clause-same
returns-clause-same g c = λ v. kept v

pub returns-clause-twice : goal.returns-clause-twice
returns-clause-twice g c = λ first second v. twice first second v
