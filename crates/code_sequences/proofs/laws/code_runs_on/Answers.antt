use Rattle.code_sequences.proofs.Seq.{run_on}
use Rattle.code_sequences.proofs.laws.code_runs_on.Goals as goal

pub returns : goal.returns
returns g c = run_on _
