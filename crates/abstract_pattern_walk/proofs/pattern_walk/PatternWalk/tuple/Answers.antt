use Rattle.abstract_pattern_walk.proofs.PatternMaking.{tuple_made}
use Rattle.abstract_pattern_walk.proofs.pattern_walk.PatternWalk.tuple.Goals as goal

pub returns : goal.returns
returns g c = tuple_made c.args.items.now c.args.at _ _ c.finish.result c.requires.several c.in_ok-items.ensures c.finish.ensures
