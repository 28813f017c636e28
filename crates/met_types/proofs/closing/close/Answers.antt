use Rattle.std.proofs.Common.{◌<◌, ◌+◌, length, arith}
use Rattle.type_definitions.proofs.Meanings.{grows_on}
use Rattle.type_definitions.proofs.Unfolded.{outcomes_on}
use Rattle.met_types.proofs.Failing.{same_err, if_too_many}
use Rattle.met_types.proofs.Indexing.{in_range}
use Rattle.met_types.proofs.closing.close.Goals as goal

pub expand-requires-clause-outcomes : goal.expand-requires-clause-outcomes
expand-requires-clause-outcomes c = outcomes_on c.args.terms.now c.loop-turn.terms c.args.definitions.now c.args.outcomes.now c.loop-turn.invariant.grows c.requires.outcomes

pub returns-in_err-expand-clause-full : goal.returns-in_err-expand-clause-full
returns-in_err-expand-clause-full c =
    same_err c.from_residual.result c.in_err-expand.field-0.0 _ c.from_residual.ensures
    (if_too_many c.in_err-expand.field-0.0 _ _ c.in_err-expand.ensures.full (λ h met k. h met (c.loop-turn.invariant.covers met k)))

pub returns-in_err-expand-clause-left : goal.returns-in_err-expand-clause-left
returns-in_err-expand-clause-left c =
    same_err c.from_residual.result c.in_err-expand.field-0.0 _ c.from_residual.ensures
    (if_too_many c.in_err-expand.field-0.0 _ _ c.in_err-expand.ensures.left (λ g. grows_on c.args.terms.now c.loop-turn.terms c.expand.new.terms c.loop-turn.invariant.grows g))

pub loop-turn-preserved : goal.loop-turn-preserved
loop-turn-preserved c =
    let r = c.in_ok-expand.ensures.formed.ready c.loop-turn.place (let k : c.loop-turn.place < c.loop-turn.place + 1 = omega arith in k) in
    let b : c.loop-turn.place < length c.expand.new.reached = in_range c.expand.new.reached c.loop-turn.place r.own r.there in
    record {
      within = omega arith;
      grows = grows_on c.args.terms.now c.loop-turn.terms c.expand.new.terms c.loop-turn.invariant.grows c.in_ok-expand.ensures.grows;
      keeps = λ i t h. c.in_ok-expand.ensures.keeps i t (c.loop-turn.invariant.keeps i t h);
      formed = c.in_ok-expand.ensures.formed;
      covers = λ met k. c.in_ok-expand.ensures.covers met (c.loop-turn.invariant.covers met k);
    }
