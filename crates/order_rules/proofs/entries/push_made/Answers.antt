use Rattle.order_rules.proofs.InOrder.{none_pushed, one_pushed}
use Rattle.order_rules.proofs.entries.push_made.Goals as goal

pub returns-in-Some : goal.returns-in-Some
returns-in-Some c = one_pushed c.push.result c.args.one c.in-Some.one c.args.made.now c.push.new.self c.in-Some.is c.push.ensures.ok

pub returns-in-None : goal.returns-in-None
returns-in-None c = none_pushed c.args.one c.args.made.now c.in-None.is
