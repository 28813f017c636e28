use Rattle.elaboration_values.proofs.Messages.{messages}
use Rattle.elaboration_values.proofs.laws.messages_belong.Goals as goal

pub returns : goal.returns
returns c = messages
