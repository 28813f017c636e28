use Rattle.abstract_types.proofs.PatternViews.{seen_Variable}
use Rattle.abstract_pattern_walk.proofs.pattern_walk.variable.Goals as goal

pub returns : goal.returns
returns c = simp (seen_Variable, c.in_ok-name.ensures, c.as_slice.ensures) at c.make_pattern.ensures
