use Rattle.program_soundness.proofs.Messages.{plain_message, message_there}
use Rattle.program_soundness.proofs.Read.{plain_read, read_typed}
use Rattle.program_soundness.proofs.laws.messages_keep_types.Goals as goal

pub returns-clause-out : goal.returns-clause-out
returns-clause-out c = λ coding types answers kinds ts vs s h. plain_message coding types answers kinds ts vs s h

pub returns-clause-back : goal.returns-clause-back
returns-clause-back c = λ coding faithful types lawful answers kinds ts vs bytes s q. plain_read types answers kinds coding faithful lawful.own ts bytes vs s q

pub returns-clause-sent : goal.returns-clause-sent
returns-clause-sent c = λ coding types graph answers kinds ts vs s h. message_there coding types graph answers kinds ts vs s h

pub returns-clause-received : goal.returns-clause-received
returns-clause-received c = λ coding faithful types graph answers kinds ts vs bytes s q. read_typed types graph answers kinds coding faithful ts bytes vs s q
