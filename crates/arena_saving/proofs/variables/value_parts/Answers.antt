use Rattle.std.proofs.Common.{length, Option, ap, ◌∙◌}
use Rattle.typed_tree.specs.ProgramView.{stable_variable}
use Rattle.mo_machine.specs.Values.{Value}
use Rattle.value_arena.specs.Meaning.{value_of, values}
use Rattle.arena_coding.proofs.Written.{ok_more}
use Rattle.arena_saving.specs.Saving.{parts_there}
use Rattle.arena_saving.proofs.SavedVariables.{no_value, own_is, value_below, value_there}
use Rattle.arena_saving.proofs.variables.value_parts.Goals as goal

pub plain-requires : goal.plain-requires
plain-requires c = value_below (length c.args.arena.now) c.args.values.now c.args.index c.in-Some.value c.requires c.in-Some.ensures

pub returns-in-Some : goal.returns-in-Some
returns-in-Some c =
    ok_more _ _ c.plain.result c.plain.ensures
    (λ o are groups.
    are groups
    ∙ own_is c.args.types.now (stable_variable c.args.variable.now) (value_of groups c.args.arena.now c.in-Some.value)
    ∙ ap (λ (w : Option Value). parts_there c.args.types.now (stable_variable c.args.variable.now) w) (value_there (values groups c.args.arena.now) c.args.values.now c.args.index c.in-Some.value c.in-Some.ensures))

pub returns-in-None : goal.returns-in-None
returns-in-None c = λ groups.
    ap (λ (w : Option Value). parts_there c.args.types.now (stable_variable c.args.variable.now) w) (no_value (values groups c.args.arena.now) c.args.values.now c.args.index c.in-None.ensures)
