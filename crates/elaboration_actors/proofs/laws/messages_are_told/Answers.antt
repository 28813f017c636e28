use Rattle.elaboration_actors.proofs.Messages.{messages_are_told}
use Rattle.elaboration_actors.proofs.laws.messages_are_told.Goals as goal

pub returns : goal.returns
returns c = messages_are_told
