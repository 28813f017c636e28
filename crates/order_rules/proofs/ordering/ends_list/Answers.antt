use Rattle.order_rules.proofs.Expressions.{own_type, type_alone}
use Rattle.order_rules.proofs.ordering.ends_list.Goals as goal

pub returns-in-Some : goal.returns-in-Some
returns-in-Some c = λ s q. own_type c.args.site.now c.args.last c.in-Some.kind s c.args.checker.now c.in-Some.is c.requires.last q

pub returns-in-None : goal.returns-in-None
returns-in-None c = λ s q. type_alone c.args.site.now c.args.last s c.args.checker.now c.no_value.new.checker c.no_value.result c.in-None.is (c.no_value.ensures s q)
