-- What stands around the declarations of a program, and that they are typed there in the order of evaluation.
use Rattle.std.specs.Prelude.{◌≡◌, ℕ, suc, true, List, [], ◌∷◌, length, map, Option, Some, None}
use Rattle.mo_scopes.specs.Scopes.{named}
use Rattle.mo_types.specs.declared.node.TypeId.{TypeId}
use Rattle.mo_types.specs.Graph.{Slot}
use Rattle.subtype_laws.specs.Reached.{Among}
use Rattle.typed_tree.specs.ActionTypes as typed
use Rattle.typed_tree.specs.Wants.{Want, Anything, Of}
use Rattle.typed_tree.specs.WellTyped.{AllDeclare, around}
use Rattle.typing_rules.specs.AbstractSyntax.{Bytes, Declarations, Program}
use Rattle.typing_rules.specs.AbstractSyntax as p
use Rattle.typing_rules.specs.Contexts.{Bound}
use Rattle.typing_rules.specs.DeclaredTypes.{with_list}
use Rattle.typing_rules.specs.Gathered.{gathered}
use Rattle.typing_rules.specs.Programs.{first_context, actor_type, made_program}
use Rattle.typing_rules.specs.Terms.{Term}
use Rattle.typing_rules.specs.TypedTrees.{Note}
use Rattle.typing_rules.specs.TypeScopes.{TypeScope, no_types}
use Rattle.desugaring.specs.Expressions.{pieces}
use Rattle.desugaring.specs.Programs.{desugared}
use Rattle.desugaring_laws.specs.GraphOf.{IsGraphOf}
use Rattle.desugaring_laws.specs.Names.{Names}
use Rattle.block_laws.specs.Lists.{method_term, in_scope, behind}
use Rattle.block_laws.specs.Order.{Reaches, facts_of}
use Rattle.actor_laws.specs.Actors.{ActorMade}
use Rattle.actor_laws.specs.Order.{outer_of, IsActorInOrder}

-- the public functions of a list with their types
abbrev pub functions_of : TypeScope → Declarations ℕ → Names
functions_of s p.End = []
functions_of s (p.Then public n (p.Method query context x g body) rest) = (x.bytes, method_term s query g) ∷ functions_of s rest
functions_of s (p.Then public n _ rest) = functions_of s rest

-- the names of its stable variables
abbrev pub stable_sources : Declarations ℕ → List Bytes
stable_sources p.End = []
stable_sources (p.Then public n (p.Var true x u a) rest) = x.bytes ∷ stable_sources rest
stable_sources (p.Then public n _ rest) = stable_sources rest

module _ (number : Term → TypeId) where
  -- what the names of public functions stand for
  abbrev pub method_wants : Declarations Note → List (Want TypeId)
  method_wants p.End = []
  method_wants (p.Then public n (p.Method query context x g body) rest) = Of (number n.type) ∷ method_wants rest
  method_wants (p.Then public n _ rest) = method_wants rest

  -- the stable variables with their types
  abbrev pub stables : Declarations Note → List (Bytes × TypeId)
  stables p.End = []
  stables (p.Then public n (p.Var true x u a) rest) = (x.bytes, number n.type) ∷ stables rest
  stables (p.Then public n _ rest) = stables rest

-- the actor's own name, if it has one
abbrev pub own_names : Option Bytes → List Bytes
own_names None = []
own_names (Some x) = x ∷ []

-- and what it stands for
abbrev pub own_want : Option Bytes → TypeId → Want TypeId
own_want None t = Anything
own_want (Some x) t = Of t

-- The declarations of a program, as they are written out, are typed one after the other: behind the actor, whose type is in the graph, its public functions, and
-- what was kept of its stable variables.
abbrev pub ProgramsAreWalked : Type 0
ProgramsAreWalked =
    (program : Program ℕ) (slots : List Slot) (terms : List Term) (number : Term → TypeId) → IsGraphOf (gathered program) slots terms number → ((x : Bytes) → program.name ≡ Some x → Among (actor_type program) terms)
    → (q : Term × Declarations Note) → ActorMade (gathered program) slots terms number (first_context program) program.fields q
    → IsActorInOrder (gathered program) slots number (with_list no_types program.fields) (own_names program.name) program.fields q.1
    → let p = desugared (gathered program) number slots (made_program program q.1) in
    (end : typed.Context) × AllDeclare slots (around slots (own_want program.name (number (actor_type program))) (method_wants number q.1) p.stable) p.declarations end

-- Each name that is bound at the end of the declarations, where the public and system functions stand behind them, stands there.
abbrev pub NamesAreReached : Type 0
NamesAreReached =
    (program : Program ℕ) (slots : List Slot) (terms : List Term) (number : Term → TypeId) (q : Term × Declarations Note) (m : ActorMade (gathered program) slots terms number (first_context program) program.fields q)
    (y : Bytes) (b : Bound) → named (behind m.list.given (in_scope (first_context program) program.fields).values) y ≡ Some b
    → let facts = facts_of slots number (with_list no_types program.fields) (map (λ z. z.declared) (pieces (gathered program) number q.1)) program.fields q.1 m.list.given in
    Reaches (outer_of (own_names program.name) program.fields) facts (suc (length facts)) (length facts) y
