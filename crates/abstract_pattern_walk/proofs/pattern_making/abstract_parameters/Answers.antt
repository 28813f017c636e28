use Rattle.abstract_pattern_walk.proofs.PatternMaking.{parameters_made}
use Rattle.abstract_pattern_walk.proofs.pattern_making.abstract_parameters.Goals as goal

pub returns-in_ok-number_behind-in-List : goal.returns-in_ok-number_behind-in-List
returns-in_ok-number_behind-in-List c = rw c.in-List.is (parameters_made _ _ _ _ _ (rw c.as_slice.ensures at c.in_ok-made-in-List.ensures) c.in_ok-number_behind-in-List.ensures)
