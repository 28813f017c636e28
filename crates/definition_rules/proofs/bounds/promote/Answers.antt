use Rattle.std.proofs.Common.{arith}
use Rattle.definition_rules.proofs.Promoting.{all_followed, at_none, at_some, one_followed}
use Rattle.definition_rules.proofs.bounds.promote.Goals as goal

pub returns-in-None-clause-made : goal.returns-in-None-clause-made
returns-in-None-clause-made c =
    (all_followed c.args.types.now c.loop-turn.types c.bound_of.new.types c.args.id c.loop-turn.id c.loop-turn._turn c.args.turns (omega (arith, c.loop-turn-test.true)) c.loop-turn.invariant c.in_ok-bound.ensures.same
    (at_none c.loop-turn.types.listed c.bound_of.new.types.forms c.loop-turn.id c.in_ok-bound.field-0 c.in-None.is c.in_ok-bound.ensures.found)).made

pub loop-turn-preserved : goal.loop-turn-preserved
loop-turn-preserved c =
    one_followed c.args.types.now c.loop-turn.types c.bound_of.new.types c.args.id c.loop-turn.id c.in-Some.bound c.loop-turn._turn c.loop-turn.invariant c.in_ok-bound.ensures.same
    (at_some c.loop-turn.types.listed c.bound_of.new.types.forms c.loop-turn.id c.in_ok-bound.field-0 c.in-Some.bound c.in-Some.is c.in_ok-bound.ensures.found)
