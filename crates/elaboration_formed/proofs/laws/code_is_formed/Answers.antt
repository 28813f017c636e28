use Rattle.elaboration_formed.proofs.Forming.{formed, bodies_formed}
use Rattle.elaboration_formed.proofs.laws.code_is_formed.Goals as goal

pub returns-clause-expressions : goal.returns-clause-expressions
returns-clause-expressions c = λ globals table b s e d h f k. formed globals table b s e d h f k

pub returns-clause-bodies : goal.returns-clause-bodies
returns-clause-bodies c = λ globals table s fns bodies h f k. bodies_formed globals table s fns bodies h f k
