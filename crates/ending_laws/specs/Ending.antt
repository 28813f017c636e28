-- What stands behind the declarations of a program, where its public and system functions are.
use Rattle.std.specs.Prelude.{◌≡◌, ℕ, false, List, [], Some, None, slice_get}
use Rattle.mo_scopes.specs.Scopes.{named}
use Rattle.mo_types.specs.declared.node.TypeId.{TypeId}
use Rattle.mo_types.specs.Graph.{Slot, head_at}
use Rattle.mo_types.specs.Heads.{async_of}
use Rattle.mo_types.specs.Sub.{Each}
use Rattle.mo_types.specs.Values.{copies}
use Rattle.subtype_laws.specs.Reached.{Among}
use Rattle.typed_tree.specs.declared.program.Program.{Program as TypedProgram}
use Rattle.typed_tree.specs.ActionTypes as typed
use Rattle.typed_tree.specs.Shareable.{IsShareable}
use Rattle.typed_tree.specs.Typing.{with_names}
use Rattle.typed_tree.specs.Wants.{Anything, CellOf}
use Rattle.typed_tree.specs.WellTyped.{AllDeclare, around}
use Rattle.typing_rules.specs.AbstractSyntax.{Bytes, Declarations, Program}
use Rattle.typing_rules.specs.AsyncPlaces.{Other}
use Rattle.typing_rules.specs.Contexts.{Bound, Context, directly}
use Rattle.typing_rules.specs.DeclaredTypes.{with_list}
use Rattle.typing_rules.specs.Definitions.{Definitions}
use Rattle.typing_rules.specs.Gathered.{gathered}
use Rattle.typing_rules.specs.Heads.{head}
use Rattle.typing_rules.specs.Lists.{Entry as Given}
use Rattle.typing_rules.specs.Programs.{first_context, actor_type, made_program}
use Rattle.typing_rules.specs.Terms.{Term}
use Rattle.typing_rules.specs.TypedTrees.{Note}
use Rattle.typing_rules.specs.TypeScopes.{no_types}
use Rattle.desugaring.specs.Expressions.{pieces}
use Rattle.desugaring.specs.Frames.{Unnamed, Frame, with_entries, found}
use Rattle.desugaring.specs.Pieces.{arranged}
use Rattle.desugaring.specs.Programs.{desugared}
use Rattle.desugaring.specs.Programs as written
use Rattle.desugaring_laws.specs.GraphOf.{IsGraphOf}
use Rattle.expression_laws.specs.Fitting.{Fits}
use Rattle.block_laws.specs.Lists.{in_scope, behind}
use Rattle.actor_laws.specs.Actors.{ActorMade}
use Rattle.actor_laws.specs.Order.{IsActorInOrder}
use Rattle.program_laws.specs.Around.{method_wants, stables, own_names, own_want}

-- what the declarations become
abbrev pub written_out : Program ℕ → List Slot → (Term → TypeId) → Declarations Note → TypedProgram
written_out program slots number made = desugared (gathered program) number slots (made_program program made)

-- what stands around what is behind them where it is written out
abbrev pub end_frame : Program ℕ → (Term → TypeId) → Declarations Note → Frame
end_frame program number made = (arranged false (pieces (gathered program) number made) (written.around (made_program program made))).frame

-- what is known there
abbrev pub known_at_end : Program ℕ → List Given → Context
known_at_end program given = directly Other (record (in_scope (first_context program) program.fields) { values = behind given (in_scope (first_context program) program.fields).values })

pub record Ended (program : Program ℕ) (slots : List Slot) (terms : List Term) (number : Term → TypeId) (made : Declarations Note) (given : List Given) : Type 0 where
  pub end : typed.Context
  pub declared : AllDeclare slots (around slots (own_want program.name (number (actor_type program))) (method_wants number made) (written_out program slots number made).stable) (written_out program slots number made).declarations end
  pub parameters : end.parameters ≡ []
  -- under so many names that nothing uses, each name that is bound stands
  pub fits : (n : ℕ) (uses : List Bytes) →
      Fits (gathered program) slots terms number (with_list no_types program.fields) uses (known_at_end program given) (with_entries (copies n Unnamed) (end_frame program number made)) (with_names (copies n Anything) end)
  -- none is one of a future
  pub plain : (x : Bytes) (b : Bound) → named (known_at_end program given).values x ≡ Some b → async_of (head (gathered program) b.type) ≡ None
  -- the name of a stable variable is one of a cell of its type, which is shareable
  pub stable : Each (λ z. IsShareable (head_at slots) z.1 × (slice_get end.names (found (end_frame program number made) z.0).index ≡ Some (CellOf z.1))) (stables number made)

-- Behind the declarations of a program that is judged, each name that is bound in its actor stands, whatever a function there uses.
abbrev pub ProgramsEnd : Type 0
ProgramsEnd =
    (program : Program ℕ) (slots : List Slot) (terms : List Term) (number : Term → TypeId) → IsGraphOf (gathered program) slots terms number → ((x : Bytes) → program.name ≡ Some x → Among (actor_type program) terms)
    → (q : Term × Declarations Note) (m : ActorMade (gathered program) slots terms number (first_context program) program.fields q)
    → IsActorInOrder (gathered program) slots number (with_list no_types program.fields) (own_names program.name) program.fields q.1 → Ended program slots terms number q.1 m.list.given

-- A type that may be sent may be sent in the graph.
abbrev pub ShareableTypesAreSeen : Type 0
ShareableTypesAreSeen =
    (defs : Definitions) (slots : List Slot) (terms : List Term) (number : Term → TypeId) → IsGraphOf defs slots terms number → (u : Term) → Among u terms → IsShareable (head defs) u → IsShareable (head_at slots) (number u)
