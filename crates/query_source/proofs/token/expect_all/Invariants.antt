use Rattle.query_source.specs.Reading.{token_text}
use Rattle.query_source.proofs.Reading.{Goes}
use Rattle.query_source.proofs.token.expect_all.Given as goal

abbrev pub invariant-loop-token : goal.invariant-loop-token
invariant-loop-token l = Goes token_text l.tokens l.token-index l.text l.rest
