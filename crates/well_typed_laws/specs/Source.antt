-- What is asked of the source of a whole program. All of it is shown by the front end, whose rules are named here.
use Rattle.std.specs.Prelude.{◌≡◌, ◌≢◌, ◌⊎◌, ℕ, true, List, [], ◌∷◌, map, codes}
use Rattle.mo_types.specs.declared.node.TypeId.{TypeId}
use Rattle.mo_types.specs.Graph.{Slot}
use Rattle.mo_types.specs.Label.{label_id}
use Rattle.mo_types.specs.Sub.{Each}
use Rattle.mo_types.specs.Values.{is_method_name}
use Rattle.typed_tree.specs.OperationTypes.{Distinct}
use Rattle.typing_rules.specs.AbstractSyntax.{Bytes, Declarations, Program}
use Rattle.typing_rules.specs.AbstractSyntax as p
use Rattle.typing_rules.specs.DeclaredTypes.{with_list}
use Rattle.typing_rules.specs.Gathered.{gathered}
use Rattle.typing_rules.specs.Programs.{JudgeFieldsOf}
use Rattle.typing_rules.specs.Terms.{Term}
use Rattle.typing_rules.specs.TypeScopes.{no_types}
use Rattle.desugaring_laws.specs.Yields.{Yields}
use Rattle.actor_laws.specs.Order.{public_functions, IsActorInOrder}
use Rattle.program_laws.specs.Around.{stable_sources, own_names}
use Rattle.program_laws.specs.Programs.{IsProgramSource}

-- the names of system functions
abbrev pub system_names : {N : Type 0} → Declarations N → List Bytes
system_names p.End = []
system_names (p.Then public n (p.System x body) rest) = x.bytes ∷ system_names rest
system_names (p.Then public n _ rest) = system_names rest

-- a name by which a public function is called, and not that by which an actor comes back to an answer
abbrev pub IsMethodName : Bytes → Type 0
IsMethodName x = (is_method_name x ≡ true) × (x ≢ codes "__resume")

abbrev pub IsSystemName : Bytes → Type 0
IsSystemName x = (x ≡ codes "preupgrade") ⊎ (x ≡ codes "postupgrade")

-- of the functions and stable variables of an actor
pub record IsActorSource (fields : Declarations ℕ) : Type 0 where
  -- identifiers are not empty and of ASCII (the lexer), and none begins with `__` (Reserved)
  pub methods_named : Each IsMethodName (public_functions fields)
  -- no two labels have one number (LabelClash)
  pub method_labels : Distinct (map label_id (public_functions fields))
  pub stable_labels : Distinct (map label_id (stable_sources fields))
  -- another name is Unknown, and one that stands again is Twice
  pub systems_named : Each IsSystemName (system_names fields)
  pub systems_differ : Distinct (system_names fields)

-- what is asked of the source of a program that is judged, over a graph that has its types under these numbers
pub record IsWholeSource (slots : List Slot) (terms : List Term) (number : Term → TypeId) (program : Program ℕ) : Type 0 where
  -- the numbers of definitions are those of their tokens; what tokens are, and that names, labels and type parameters differ (the lexer, Twice, LabelClash)
  pub source : IsProgramSource slots terms number program
  pub actor : IsActorSource program.fields
  -- names of the actor's list differ, and are used only where they stand (Twice, UsedBeforeDefined)
  pub in_order :
      Yields (gathered program) terms (JudgeFieldsOf program) (λ made. IsActorInOrder (gathered program) slots number (with_list no_types program.fields) (own_names program.name) program.fields made.fields)
