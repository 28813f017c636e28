use Rattle.std.proofs.Common.{◌∙◌, List, ap, subst, sym}
use Rattle.mo_types.specs.Graph.{Slot}
use Rattle.mo_types.specs.Sub.{Each}
use Rattle.abstract_tree.specs.declared.declarations.Declaration.{Declaration}
use Rattle.value_scopes.specs.declared.note.Note.{Note}
use Rattle.met_types.specs.States.{State}
use Rattle.kernel_methods.specs.Shared.{SharedIn}
use Rattle.kernel_programs.specs.Actors.{desugared_in, typed_by}
use Rattle.kernel_programs.proofs.programs.program_by.Goals as goal

pub program_actor-requires-clause-shared : goal.program_actor-requires-clause-shared
program_actor-requires-clause-shared g c =
    subst (λ (z : State). Each (SharedIn z) c.args.program.now.fields) (sym c.new-types.ensures)
    (subst (λ (l : List (Declaration Note)). Each (SharedIn c.args.types) l) c.as_slice.ensures (c.are_shared.ensures c.if-not-are_shared.false))

pub returns : goal.returns
returns g c =
    c.with_types.ensures
    ∙ (ap (λ (l : List Slot). typed_by l c.in_ok-made.made) c.into_graph.ensures
    ∙ (c.in_ok-made.ensures c.new-types.result.slots ∙ ap (λ (z : State). desugared_in z z.slots c.args.program.now) c.new-types.ensures))
