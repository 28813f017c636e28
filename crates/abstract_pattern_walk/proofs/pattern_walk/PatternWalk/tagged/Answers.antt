use Rattle.std.proofs.Common.{◌∙◌}
use Rattle.abstract_pattern_walk.proofs.PatternMaking.{tag_made, tagged_made}
use Rattle.abstract_pattern_walk.proofs.pattern_walk.PatternWalk.tagged.Goals as goal

pub returns-in-None : goal.returns-in-None
returns-in-None g c = tag_made c.args.name.now _ _ c.args.at c.finish.result c.in-None.is (c.in_ok-name.ensures ∙ c.as_slice.ensures) c.finish.ensures

pub returns-in_ok-of-in-Some : goal.returns-in_ok-of-in-Some
returns-in_ok-of-in-Some g c = tagged_made _ c.args.name.now _ _ c.args.at _ _ c.finish-in-Some.result c.in-Some.is (c.in_ok-name.ensures ∙ c.as_slice.ensures) c.in_ok-of-in-Some.ensures c.finish-in-Some.ensures
