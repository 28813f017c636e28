use Rattle.std.proofs.Common.{List, Option, sym, ap, ◌∙◌, subst}
use Rattle.mo_machine.specs.Exports.{value_or_unit, values_in}
use Rattle.mo_machine.specs.Values.{Value}
use Rattle.value_arena.specs.declared.node.ValueId.{ValueId}
use Rattle.value_arena.specs.Growth.{AreWithin}
use Rattle.arena_states.specs.Standing.{list_of}
use Rattle.arena_coding.proofs.Written.{ok_more}
use Rattle.arena_saving.proofs.exports.cells_of.Goals as goal

pub returns-in-Some-clause-means : goal.returns-in-Some-clause-means
returns-in-Some-clause-means c =
    ok_more _ _ c.parts_of.result c.parts_of.ensures.means (λ ids are groups. are groups ∙ ap (λ (o : Option Value). values_in (value_or_unit o)) (c.in-Some.ensures.means groups))

pub returns-in-None-clause-means : goal.returns-in-None-clause-means
returns-in-None-clause-means c = λ groups.
    ap (λ (l : List ValueId). list_of groups c.args.arena.now l) c.new.ensures.items ∙ ap (λ (o : Option Value). values_in (value_or_unit o)) (c.in-None.ensures.means groups)

pub returns-in-None-clause-within : goal.returns-in-None-clause-within
returns-in-None-clause-within c =
    let Of : List ValueId → Type 0 = λ l. AreWithin c.args.arena.now l in
    subst Of (sym c.new.ensures.items) tt
