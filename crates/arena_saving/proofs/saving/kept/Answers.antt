use Rattle.std.proofs.Common.{List, sym, ap, ap₂, ◌∙◌, subst, map}
use Rattle.typed_tree.specs.ProgramView.{stable_variable}
use Rattle.mo_machine.specs.Acts.{Store}
use Rattle.mo_machine.specs.Values.{Value}
use Rattle.value_arena.specs.declared.node.ValueId.{ValueId}
use Rattle.value_arena.specs.Growth.{AreWithin}
use Rattle.arena_states.specs.Standing.{list_of}
use Rattle.arena_saving.specs.Saving.{held_in, parts_in}
use Rattle.arena_saving.proofs.saving.kept.Goals as goal

pub held_in-requires-clause-store : goal.held_in-requires-clause-store
held_in-requires-clause-store c =
    let Of : List ValueId → Type 0 = λ l. AreWithin c.args.machine.arena l in
    subst Of (sym c.as_slice.ensures.value) c.requires.sound.stores

pub held_in-requires-clause-cells : goal.held_in-requires-clause-cells
held_in-requires-clause-cells c =
    let Of : List ValueId → Type 0 = λ l. AreWithin c.args.machine.arena l in
    subst Of (sym c.as_slice-2.ensures.value) c.in_ok-cells.ensures.within

pub variables-requires : goal.variables-requires
variables-requires c =
    let Of : List ValueId → Type 0 = λ l. AreWithin c.args.machine.arena l in
    subst Of (sym c.as_slice-3.ensures.value) c.in_ok-values.ensures.within

pub returns : goal.returns
returns c = record {
  parts = c.in_ok-parts.parts;
  is = c.keeping.ensures;
  means = λ groups.
      let ns = c.args.machine.arena in
      c.in_ok-parts.ensures groups
      ∙ ap (λ (vs : List Value). parts_in c.args.types.now (map stable_variable c.args.stable.now) vs)
      (ap (λ (l : List ValueId). list_of groups ns l) c.as_slice-3.ensures.value
      ∙ c.in_ok-values.ensures.means groups
      ∙ ap₂ (λ (s : Store) (cs : List Value). held_in s cs) (ap (λ (l : List ValueId). list_of groups ns l) c.as_slice.ensures.value)
      (ap (λ (l : List ValueId). list_of groups ns l) c.as_slice-2.ensures.value ∙ c.in_ok-cells.ensures.means groups));
}
