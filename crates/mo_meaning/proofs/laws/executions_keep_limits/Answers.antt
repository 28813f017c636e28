use Rattle.mo_meaning.proofs.Bounds.{all_keep_bounds, all_keep_room, long_messages_trap}
use Rattle.mo_meaning.proofs.laws.executions_keep_limits.Goals as goal

pub returns-clause-messages : goal.returns-clause-messages
returns-clause-messages c = λ coding first types p. all_keep_bounds coding first types p

pub returns-clause-room : goal.returns-clause-room
returns-clause-room c = λ coding first types p. all_keep_room coding first types p

pub returns-clause-exact : goal.returns-clause-exact
returns-clause-exact c = λ bytes at r. long_messages_trap bytes at r
