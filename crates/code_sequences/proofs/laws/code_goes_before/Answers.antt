use Rattle.code_sequences.proofs.Prefix.{goes_before}
use Rattle.code_sequences.proofs.laws.code_goes_before.Goals as goal

pub returns : goal.returns
returns g c = goes_before _
