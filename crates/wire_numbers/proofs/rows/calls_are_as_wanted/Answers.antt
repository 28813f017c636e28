use Rattle.std.proofs.Common.{refl}
use Rattle.low_ir.specs.Numbering.{host_types, host_signatures}
use Rattle.wire_numbers.proofs.rows.calls_are_as_wanted.Goals as goal

pub returns-clause-read : goal.returns-clause-read
unfolding host_types host_signatures
returns-clause-read c = refl

pub returns-clause-written : goal.returns-clause-written
unfolding host_types host_signatures
returns-clause-written c = refl
