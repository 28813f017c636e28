use Rattle.abstract_pattern_walk.proofs.PatternMaking.{object_made}
use Rattle.abstract_pattern_walk.proofs.pattern_walk.PatternWalk.object.Goals as goal

pub returns : goal.returns
returns g c = object_made c.args.last c.args.fields.now c.args.at _ _ _ c.finish.result c.count_if.ensures.count (rw c.as_slice.ensures at c.in_ok-fields.ensures) c.finish.ensures
