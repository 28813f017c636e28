use Rattle.std.proofs.Common.{◌∙◌, arith}
use Rattle.mo_depth.specs.Nested.{standing}
use Rattle.mo_depth.proofs.DepthLemmas.{behind_none, stands_more, is_deep, shallow_more}
use Rattle.mo_depth.proofs.deep.first_deep.Goals as goal

pub loop-token-init : goal.loop-token-init
loop-token-init c = record { stands = c.new-nesting.ensures ∙ behind_none; shallow = λ i lt. absurd (omega arith) }

pub returns-then-nesting-gt-MOST : goal.returns-then-nesting-gt-MOST
returns-then-nesting-gt-MOST c = is_deep c.args.tokens.now c.loop-token.token-index c.token-item.result _ c.loop-token-test.true c.token-item.is c.loop-token.invariant.stands
    (omega (arith, c.loop-token.nesting.summed, c.if-nesting-gt-MOST.true)) c.loop-token.invariant.shallow

pub loop-token-preserved : goal.loop-token-preserved
loop-token-preserved c = record {
  stands = stands_more c.args.tokens.now c.loop-token.token-index c.token-item.result (standing c.loop-token.nesting) (standing c.step.new.self) c.role_of.result
      c.loop-token-test.true c.token-item.is c.loop-token.invariant.stands c.role_of.ensures c.in_ok-step.ensures;
  shallow = shallow_more c.args.tokens.now c.loop-token.token-index _ c.loop-token.invariant.stands (omega (arith, c.loop-token.nesting.summed, c.if-nesting-gt-MOST.false)) c.loop-token.invariant.shallow;
}
