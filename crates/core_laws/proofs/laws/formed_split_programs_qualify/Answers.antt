use Rattle.core_laws.proofs.FormedConversion.{formed_order}
use Rattle.core_laws.proofs.laws.formed_split_programs_qualify.Goals as goal

pub returns : goal.returns
returns c = formed_order
