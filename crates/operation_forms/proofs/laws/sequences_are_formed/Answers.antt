use Rattle.operation_forms.proofs.Sequences.{sequences_formed}
use Rattle.operation_forms.proofs.laws.sequences_are_formed.Goals as goal

pub returns : goal.returns
returns c = sequences_formed
