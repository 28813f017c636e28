use Rattle.std.proofs.Common.{List, sym, ap, ◌∙◌, subst}
use Rattle.value_arena.specs.declared.node.ValueId.{ValueId}
use Rattle.value_arena.specs.Growth.{AreWithin}
use Rattle.value_arena.specs.Meaning.{value_of}
use Rattle.arena_states.specs.Standing.{list_of}
use Rattle.arena_coding.proofs.Written.{ok_more}
use Rattle.arena_bodies.proofs.Made.{none_in}
use Rattle.arena_saving.proofs.ExportParts.{parts_are}
use Rattle.arena_saving.proofs.exports.parts_of.Goals as goal

pub returns-in-Some-clause-means : goal.returns-in-Some-clause-means
returns-in-Some-clause-means c =
    ok_more _ _ c.copied.result c.copied.ensures
    (λ copy is groups. ap (λ (l : List ValueId). list_of groups c.args.arena.now l) is ∙ parts_are groups c.args.arena.now c.args.value _ c.in-Some.parts.now (c.in-Some.ensures.means groups))

pub returns-in-Some-clause-within : goal.returns-in-Some-clause-within
returns-in-Some-clause-within c =
    let Of : List ValueId → Type 0 = λ l. AreWithin c.args.arena.now l in
    ok_more _ _ c.copied.result c.copied.ensures (λ copy is. subst Of (sym is) c.in-Some.ensures.within)

pub returns-in-None-clause-means : goal.returns-in-None-clause-means
returns-in-None-clause-means c = λ groups.
    ap (λ (l : List ValueId). list_of groups c.args.arena.now l) c.new.ensures.items ∙ sym (none_in (value_of groups c.args.arena.now c.args.value) (c.in-None.ensures.means groups))

pub returns-in-None-clause-within : goal.returns-in-None-clause-within
returns-in-None-clause-within c =
    let Of : List ValueId → Type 0 = λ l. AreWithin c.args.arena.now l in
    subst Of (sym c.new.ensures.items) tt
