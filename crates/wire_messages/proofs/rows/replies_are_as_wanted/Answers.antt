use Rattle.std.proofs.Common.{refl}
use Rattle.low_ir.specs.Numbering.{host_types, host_signatures}
use Rattle.wire_messages.proofs.rows.replies_are_as_wanted.Goals as goal

pub returns : goal.returns
unfolding host_types host_signatures
returns c = refl
