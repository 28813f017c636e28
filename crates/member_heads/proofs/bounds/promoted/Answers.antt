use Rattle.std.proofs.Common.{◌-◌, arith}
use Rattle.member_heads.proofs.Promoting.{leads_first, leads_no_more, leads_on, leads_to}
use Rattle.member_heads.proofs.bounds.promoted.Goals as goal

pub loop-left-init : goal.loop-left-init
loop-left-init c = record {
  leads = leads_first c.args.types.now c.args.id c.turns-left.result c.turns-left.ensures c.requires.kept.stand.as_many_bounds;
  reached = c.requires.reached;
}

pub loop-left-preserved : goal.loop-left-preserved
loop-left-preserved c = record {
  leads = leads_on c.args.types.now c.args.id c.loop-left.left (c.loop-left.left - 1) c.loop-left.last c.in-Some.next (omega (arith, c.loop-left-test.true)) c.in-Some.ensures.is c.loop-left.invariant.leads;
  reached = c.in-Some.ensures.reached;
}

pub returns-in-None-clause-is : goal.returns-in-None-clause-is
returns-in-None-clause-is c = leads_no_more c.args.types.now c.args.id c.loop-left.left c.loop-left.last c.in-None.ensures.is c.loop-left.invariant.leads

pub returns-clause-is : goal.returns-clause-is
returns-clause-is c = leads_to c.args.types.now c.args.id c.loop-left.left c.loop-left.last (omega (arith, c.loop-left-test.false)) c.loop-left.invariant.leads
