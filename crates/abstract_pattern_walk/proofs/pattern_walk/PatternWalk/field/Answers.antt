use Rattle.abstract_pattern_walk.proofs.PatternMaking.{punned_made, field_made}
use Rattle.abstract_pattern_walk.proofs.pattern_walk.PatternWalk.field.Goals as goal

pub returns-in_ok-number_behind-in-None : goal.returns-in_ok-number_behind-in-None
returns-in_ok-number_behind-in-None g c = punned_made c.args.field.now _ _ _ _ _ c.in-None.is c.in_ok-place.ensures c.in_ok-name.ensures c.in_ok-pattern-in-None.ensures c.in_ok-number_behind-in-None.ensures

pub returns-in_ok-pattern-in-Some : goal.returns-in_ok-pattern-in-Some
returns-in_ok-pattern-in-Some g c = field_made c.args.field.now _ _ _ _ _ _ c.in-Some.is c.in_ok-place.ensures c.in_ok-name.ensures c.in_ok-pattern-in-Some.ensures
