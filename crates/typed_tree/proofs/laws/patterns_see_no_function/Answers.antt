use Rattle.typed_tree.proofs.Natural.{matches_same, matches_all_same}
use Rattle.typed_tree.proofs.laws.patterns_see_no_function.Goals as goal

pub returns-clause-one : goal.returns-clause-one
returns-clause-one g c = λ code p v. matches_same code p v

pub returns-clause-all : goal.returns-clause-all
returns-clause-all g c = λ code ps vs. matches_all_same code ps vs
