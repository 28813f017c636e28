use Rattle.wire_messages.proofs.Sent.{replies_are_written as kept}
use Rattle.wire_messages.proofs.laws.replies_are_written.Goals as goal

pub returns : goal.returns
returns g c = kept _
