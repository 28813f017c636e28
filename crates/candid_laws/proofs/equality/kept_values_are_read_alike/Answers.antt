use Rattle.candid_laws.proofs.Along.{kept_reads}
use Rattle.candid_laws.proofs.equality.kept_values_are_read_alike.Goals as goal

pub returns : goal.returns
returns c = λ head next old new v w bytes k h. kept_reads head next old new v w bytes k h
