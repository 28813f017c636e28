use Rattle.wire_messages.proofs.Formed.{messages_formed}
use Rattle.wire_messages.proofs.laws.messages_are_formed.Goals as goal

pub returns : goal.returns
returns c = messages_formed
