use Rattle.type_definitions.proofs.Leading.{follow_next, follow_all}
use Rattle.type_definitions.proofs.chains.round.Goals as goal

pub loop-definition-preserved : goal.loop-definition-preserved
loop-definition-preserved c =
    follow_next c.args.terms.now c.args.definitions.now c.args.outcomes.now c.types-definition-items.result.now c.loop-definition.definition-index c.definition-item.result c.loop-definition.made.items c.push.new.self.items c.follow.result
    c.loop-definition-test.true c.definition-item.is c.loop-definition.invariant c.follow.ensures c.in_ok-push.ensures.items

pub returns : goal.returns
returns c = follow_all c.args.terms.now c.args.definitions.now c.args.outcomes.now c.types-definition-items.result.now c.loop-definition.definition-index c.loop-definition.made.items c.types-definition-items.ensures c.loop-definition-test.false c.loop-definition.invariant
