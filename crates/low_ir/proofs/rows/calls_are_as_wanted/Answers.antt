use Rattle.std.proofs.Common.{refl}
use Rattle.low_ir.specs.Numbering.{host_types, host_signatures}
use Rattle.low_ir.proofs.Example.{example_formed}
use Rattle.low_ir.proofs.rows.calls_are_as_wanted.Goals as goal

pub returns-clause-rows : goal.returns-clause-rows
unfolding host_types host_signatures
returns-clause-rows c = refl

pub returns-clause-formed : goal.returns-clause-formed
returns-clause-formed c = example_formed
