use Rattle.wire_messages.proofs.Heard.{arguments_are_read as kept}
use Rattle.wire_messages.proofs.laws.arguments_are_read.Goals as goal

pub returns : goal.returns
returns g c = kept _
