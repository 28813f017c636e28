use Rattle.query_source.specs.Reading.{token_text}
use Rattle.query_source.proofs.Reading.{goes_on, goes_nowhere}
use Rattle.query_source.proofs.token.expect_all.Goals as goal

pub returns-in_default-clause-none : goal.returns-in_default-clause-none
returns-in_default-clause-none c = goes_nowhere token_text c.args.tokens.now c.loop-token.token-index _ _ _ c.loop-token-test.true c.in_default.ensures.none c.loop-token.invariant

pub loop-token-preserved : goal.loop-token-preserved
loop-token-preserved c = goes_on token_text c.args.tokens.now c.loop-token.token-index _ _ _ _ c.loop-token-test.true c.expect.ensures.solid c.in-Some.ensures.some c.loop-token.invariant
