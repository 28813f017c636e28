-- The list of an actor whose declarations are in order as they are written is in order as they are made.
use Rattle.std.specs.Prelude.{ℕ, List}
use Rattle.mo_types.specs.declared.node.TypeId.{TypeId}
use Rattle.mo_types.specs.Graph.{Slot}
use Rattle.typed_tree.specs.OperationTypes.{Distinct}
use Rattle.typing_rules.specs.AbstractSyntax.{Program}
use Rattle.typing_rules.specs.DeclaredTypes.{with_list}
use Rattle.typing_rules.specs.Gathered.{gathered}
use Rattle.typing_rules.specs.Programs.{JudgeFieldsOf}
use Rattle.typing_rules.specs.Terms.{Term}
use Rattle.typing_rules.specs.TypeScopes.{no_types}
use Rattle.desugaring.specs.FreeNames.{names_of_list}
use Rattle.desugaring_laws.specs.Yields.{Yields}
use Rattle.actor_laws.specs.Order.{IsActorInOrder}
use Rattle.program_laws.specs.Around.{own_names}
use Rattle.kept_names.specs.Plain.{ArePlain}
use Rattle.order_laws.specs.Ordered.{declareds, IsOrdered}

-- The list of an actor, whose names differ, is in order where its source is, in what it is judged to be.
abbrev pub ActorsAreInOrder : Type 0
ActorsAreInOrder =
    (program : Program ℕ) (slots : List Slot) (terms : List Term) (number : Term → TypeId) → Distinct (names_of_list program.fields) → (ArePlain program.fields → IsOrdered (declareds program.fields))
    → Yields (gathered program) terms (JudgeFieldsOf program)
    (λ made. IsActorInOrder (gathered program) slots number (with_list no_types program.fields) (own_names program.name) program.fields made.fields)
