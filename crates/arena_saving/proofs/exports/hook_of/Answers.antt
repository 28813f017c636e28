use Rattle.std.proofs.Common.{Option, ap, ◌∙◌}
use Rattle.mo_machine.specs.Exports.{option_value, value_or_unit}
use Rattle.mo_machine.specs.Values.{Value}
use Rattle.arena_saving.proofs.exports.hook_of.Goals as goal

pub returns-in-Some-clause-means : goal.returns-in-Some-clause-means
returns-in-Some-clause-means c = λ groups. c.inside.ensures.means groups ∙ ap (λ (o : Option Value). option_value (value_or_unit o)) (c.in-Some.ensures.means groups)

pub returns-in-None-clause-means : goal.returns-in-None-clause-means
returns-in-None-clause-means c = λ groups. ap (λ (o : Option Value). option_value (value_or_unit o)) (c.in-None.ensures.means groups)
