use Rattle.definition_rules.proofs.Promoting.{parameter_below}
use Rattle.proper_types.proofs.Readings.{parameter_met}
use Rattle.proper_types.proofs.parameters.is_met.Goals as goal

pub intern-requires-clause-below : goal.intern-requires-clause-below
intern-requires-clause-below c = parameter_below _ c.args.at

pub returns : goal.returns
returns c =
    parameter_met c.args.at c.args.types.now c.intern.new.self c.meets.new.types c.args.sharing.now c.in_ok-parameter.parameter c.requires
    (record { kept = c.in_ok-parameter.ensures.kept; goes = c.in_ok-parameter.ensures.goes; stands = c.in_ok-parameter.ensures.stands })
    c.in_ok-parameter.ensures.made c.meets.result c.meets.ensures.kept c.meets.ensures.goes c.meets.ensures.left c.meets.ensures.judged
