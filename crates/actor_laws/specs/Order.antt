-- The order of evaluation of an actor's declarations, around which its own name and its public functions stand.
use Rattle.std.specs.Prelude.{◌≡◌, ℕ, zero, false, List, [], ◌∷◌, ◌++◌, map, Some, None}
use Rattle.mo_scopes.specs.Scopes.{named}
use Rattle.mo_types.specs.declared.node.TypeId.{TypeId}
use Rattle.mo_types.specs.Graph.{Slot}
use Rattle.subtype_laws.specs.Reached.{Among}
use Rattle.typed_tree.specs.declared.program.StableVariable.{StableVariable}
use Rattle.typed_tree.specs.OperationTypes.{Distinct}
use Rattle.typed_tree.specs.Wants.{Want, Of}
use Rattle.typed_tree.specs.WellTyped.{around}
use Rattle.typing_rules.specs.AbstractSyntax.{Bytes, Declarations}
use Rattle.typing_rules.specs.AbstractSyntax as p
use Rattle.typing_rules.specs.AsyncPlaces.{Other}
use Rattle.typing_rules.specs.Contexts.{Bound, Context, directly}
use Rattle.typing_rules.specs.DeclaredTypes.{with_list}
use Rattle.typing_rules.specs.Definitions.{Definitions}
use Rattle.typing_rules.specs.Lists.{Entry as Given}
use Rattle.typing_rules.specs.Terms.{Term}
use Rattle.typing_rules.specs.TypedTrees.{Note}
use Rattle.typing_rules.specs.TypeScopes.{TypeScope}
use Rattle.desugaring.specs.Expressions.{pieces}
use Rattle.desugaring.specs.FreeNames.{names_of_list, in_declarations, without}
use Rattle.desugaring.specs.Frames.{Frame}
use Rattle.desugaring.specs.Pieces.{arranged}
use Rattle.desugaring_laws.specs.GraphOf.{IsGraphOf}
use Rattle.expression_laws.specs.Fitting.{Fits}
use Rattle.list_laws.specs.Facts.{At}
use Rattle.list_laws.specs.Laws.{Walked}
use Rattle.list_laws.specs.Standing.{StandsIn}
use Rattle.block_laws.specs.Lists.{AreKept, ListMade, in_scope}
use Rattle.block_laws.specs.Order.{AllInOrder, facts_of}

-- the names of public functions
abbrev pub public_functions : {N : Type 0} → Declarations N → List Bytes
public_functions p.End = []
public_functions (p.Then public n (p.Method query context x g body) rest) = x.bytes ∷ public_functions rest
public_functions (p.Then public n _ rest) = public_functions rest

-- the names that stand around the declarations of an actor of this name, or of none
abbrev pub outer_of : List Bytes → Declarations ℕ → List Bytes
outer_of own ds = without (names_of_list ds) (own ++ in_declarations ds) ++ public_functions ds

-- What is asked of the list of an actor as it is written and as it is made: its names differ, and each is used only where it stands.
pub record IsActorInOrder (defs : Definitions) (slots : List Slot) (number : Term → TypeId) (s : TypeScope) (own : List Bytes) (ds : Declarations ℕ) (made : Declarations Note) : Type 0 where
  pub differ : Distinct (names_of_list ds)
  pub used : (given : List Given) → let all = map (λ b. b.declared) (pieces defs number made) in AllInOrder (outer_of own ds) all (facts_of slots number s all ds made given) zero ds made

-- The declarations of an actor are typed in the order of evaluation, where its own name, its public functions and what was kept of its stable variables stand
-- around them.
abbrev pub ActorsAreWalked : Type 0
ActorsAreWalked =
    (defs : Definitions) (slots : List Slot) (terms : List Term) (number : Term → TypeId) → IsGraphOf defs slots terms number → (e : Context) (own : List Bytes) (ds : Declarations ℕ) (f : Frame) (of_own : Want TypeId) (methods : List (Want TypeId))
    (stable : List StableVariable) → Fits defs slots terms number e.types [] (directly Other e) f (around slots of_own methods stable) → (q : Term × Declarations Note) → (m : ListMade defs slots terms number [] false e ds None q)
    → AreKept defs slots terms number f (around slots of_own methods stable) ds m.given
    → ((y : Bytes) → Among y (outer_of own ds) → (b : Bound) → named (in_scope e ds).values y ≡ Some b → StandsIn defs slots terms number [] e.body f.names (around slots of_own methods stable).names y b)
    → IsActorInOrder defs slots number (with_list e.types ds) own ds q.1
    → Walked slots (pieces defs number q.1)
    (At defs slots terms number e.body (in_scope e ds).values f (around slots of_own methods stable) (outer_of own ds) (facts_of slots number (with_list e.types ds) (map (λ b. b.declared) (pieces defs number q.1)) ds q.1 m.given))
    (Of (number q.0)) (arranged false (pieces defs number q.1) f) (around slots of_own methods stable)
