use Rattle.std.proofs.Common.{rules, map}
use Rattle.typed_tree.specs.PatternView.{pattern}
use Rattle.pattern_elab.proofs.Chosen.{made_ordered, made_small}
use Rattle.pattern_elab.proofs.switch.cases.Goals as goal

pub returns-clause-ordered : goal.returns-clause-ordered
returns-clause-ordered c =
    made_ordered (map pattern c.args.patterns.now) (record { places = c.loop-number.state.places; tests = c.loop-number.state.tests; start = c.loop-number.start }) (search rules)

pub returns-clause-small : goal.returns-clause-small
returns-clause-small c =
    made_small (map pattern c.args.patterns.now) (record { places = c.loop-number.state.places; tests = c.loop-number.state.tests; start = c.loop-number.start }) (search rules)
