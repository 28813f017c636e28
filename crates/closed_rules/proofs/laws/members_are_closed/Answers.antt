use Rattle.closed_rules.proofs.Members.{member_closed}
use Rattle.closed_rules.proofs.laws.members_are_closed.Goals as goal

pub returns : goal.returns
returns g x = λ head other c m ws n h. member_closed head other c m ws n h
