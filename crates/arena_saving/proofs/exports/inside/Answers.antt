use Rattle.std.proofs.Common.{length, ap, ◌∙◌}
use Rattle.mo_machine.specs.Exports.{option_value}
use Rattle.mo_machine.specs.Values.{Value}
use Rattle.value_arena.specs.Meaning.{value_of, values}
use Rattle.arena_saving.proofs.ExportParts.{made_none, made_value}
use Rattle.arena_saving.proofs.exports.inside.Goals as goal

pub returns-in-Some-clause-means : goal.returns-in-Some-clause-means
returns-in-Some-clause-means c = λ groups.
    c.present_in.ensures.means (values groups c.args.arena.now) ∙ ap (λ (v : Value). option_value v) (made_value (value_of groups c.args.arena.now c.args.value) _ _ (c.in-Some.ensures.means groups))

pub returns-in-Some-clause-within : goal.returns-in-Some-clause-within
returns-in-Some-clause-within c = c.present_in.ensures.within (length c.args.arena.now) c.in-Some.ensures.within

pub returns-in-None-clause-means : goal.returns-in-None-clause-means
returns-in-None-clause-means c = λ groups. made_none (value_of groups c.args.arena.now c.args.value) (c.in-None.ensures.means groups)
