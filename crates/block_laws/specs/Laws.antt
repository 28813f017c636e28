-- Whole lists of declarations.
use Rattle.std.specs.Prelude.{◌≡◌, ℕ, Bool, List, map, Option, Some, None}
use Rattle.mo_types.specs.declared.node.TypeId.{TypeId}
use Rattle.mo_types.specs.Graph.{Slot}
use Rattle.subtype_laws.specs.Reached.{Among}
use Rattle.typed_tree.specs.ActionTypes as typed
use Rattle.typed_tree.specs.Wants.{Of}
use Rattle.typing_rules.specs.AbstractSyntax.{Declarations}
use Rattle.typing_rules.specs.AsyncPlaces.{Other}
use Rattle.typing_rules.specs.Contexts.{Scope, Context, directly}
use Rattle.typing_rules.specs.DeclaredTypes.{with_list}
use Rattle.typing_rules.specs.Definitions.{Definitions}
use Rattle.typing_rules.specs.Expressions.{JudgeOrder, JudgeBodies}
use Rattle.typing_rules.specs.Gathered.{in_list}
use Rattle.typing_rules.specs.Lists.{Entry as Given, Listed}
use Rattle.typing_rules.specs.Signatures.{Signatures}
use Rattle.typing_rules.specs.Terms.{Term, unit}
use Rattle.typing_rules.specs.TypedTrees.{Note}
use Rattle.typing_rules.specs.TypeScopes.{TypeScope}
use Rattle.desugaring.specs.Expressions.{pieces}
use Rattle.desugaring.specs.FreeNames.{names_of_list, in_declarations, without}
use Rattle.desugaring.specs.Frames.{Frame}
use Rattle.desugaring.specs.Pieces.{arranged}
use Rattle.desugaring_laws.specs.GraphOf.{IsGraphOf}
use Rattle.desugaring_laws.specs.Known.{IsKnown}
use Rattle.desugaring_laws.specs.Scopes.{IsScopeFine, AreBoundsIn}
use Rattle.desugaring_laws.specs.Yields.{Yields}
use Rattle.expression_laws.specs.Fitting.{Fits}
use Rattle.list_laws.specs.Facts.{At}
use Rattle.list_laws.specs.Laws.{Walked}
use Rattle.scope_laws.specs.Gathers.{Gathers}
use Rattle.block_laws.specs.Lists.{signed, AreSigned, AreReady, AreEvaluated, OrderMade, AreMade, AreKept, ListMade, in_scope, made_of}
use Rattle.block_laws.specs.Order.{IsInOrder, facts_of}

-- The signatures of a list bind the names of its functions and classes to the types that are written.
abbrev pub ListsAreSigned : Type 0
ListsAreSigned =
    (defs : Definitions) (slots : List Slot) (terms : List Term) (number : Term → TypeId) (vs : List ℕ) (s : TypeScope) → IsScopeFine defs vs s → AreBoundsIn vs defs → (ds : Declarations ℕ)
    → Gathers defs (in_list s ds) → AreReady defs slots terms number s ds → Yields defs terms (Signatures defs s ds) (λ names. (names ≡ signed s ds) × AreSigned defs terms vs s ds)

-- What is evaluated in order becomes typed wherever it stands.
abbrev pub OrdersAreMade : Type 0
OrdersAreMade =
    (defs : Definitions) (slots : List Slot) (terms : List Term) (number : Term → TypeId) → IsGraphOf defs slots terms number → Among unit terms → (vs : List ℕ) (at : ℕ) (value : Bool) (w : Option Term)
    → ((u : Term) → w ≡ Some u → IsKnown defs terms vs u) → (e : Context) (ds : Declarations ℕ) (last : Option Term) → AreReady defs slots terms number e.types ds
    → Yields defs terms (JudgeOrder defs (directly Other e) at value ds last w) (OrderMade defs slots terms number vs value e ds last w)

-- Behind that the bodies of functions and classes do.
abbrev pub BodiesAreMade : Type 0
BodiesAreMade =
    (defs : Definitions) (slots : List Slot) (terms : List Term) (number : Term → TypeId) → IsGraphOf defs slots terms number → Among unit terms → (vs : List ℕ) (value : Bool) (w : Option Term) (known : Scope) (e : Context)
    → (ds : Declarations ℕ) (given : List Given) → Gathers defs (in_list e.types ds) → AreReady defs slots terms number e.types ds → AreSigned defs terms vs e.types ds → AreEvaluated defs slots terms number vs value e ds w given
    → Yields defs terms (JudgeBodies defs (directly Other (record e { values = known })) ds (made_of given)) (AreMade defs slots terms number vs (directly Other (record e { values = known })) value e ds w given)

-- So each declaration of a whole list becomes a typed one, where its types, its signatures, what is evaluated and its bodies are judged.
abbrev pub ListsAreMade : Type 0
ListsAreMade =
    (defs : Definitions) (slots : List Slot) (terms : List Term) (number : Term → TypeId) → IsGraphOf defs slots terms number → Among unit terms → (vs : List ℕ) (at : ℕ) (value : Bool) (w : Option Term)
    → ((u : Term) → w ≡ Some u → IsKnown defs terms vs u) → (e : Context) → IsScopeFine defs vs e.types → AreBoundsIn vs defs → (ds : Declarations ℕ) → Gathers defs (in_list (with_list e.types ds) ds)
    → AreReady defs slots terms number (with_list e.types ds) ds
    → Yields defs terms (Listed defs (directly Other e) ds (λ known. JudgeOrder defs known at value ds None w) (λ known made. JudgeBodies defs known ds made)) (ListMade defs slots terms number vs value e ds w)

-- A whole list that was judged, whose names differ and are used where they stand, is typed in the order of evaluation, as a block or as an object.
abbrev pub ListsAreWalked : Type 0
ListsAreWalked =
    (defs : Definitions) (slots : List Slot) (terms : List Term) (number : Term → TypeId) → IsGraphOf defs slots terms number → (e : Context) (ds : Declarations ℕ) (f : Frame) (c : typed.Context)
    → Fits defs slots terms number e.types (without (names_of_list ds) (in_declarations ds)) (directly Other e) f c → (value : Bool) (w : Option Term) (q : Term × Declarations Note)
    → (m : ListMade defs slots terms number c.parameters value e ds w q) → AreKept defs slots terms number f c ds m.given → IsInOrder defs slots number (with_list e.types ds) ds q.1 → (has_value : Bool)
    → Walked slots (pieces defs number q.1)
    (At defs slots terms number e.body (in_scope e ds).values f c (without (names_of_list ds) (in_declarations ds)) (facts_of slots number (with_list e.types ds) (map (λ b. b.declared) (pieces defs number q.1)) ds q.1 m.given))
    (Of (number q.0)) (arranged has_value (pieces defs number q.1) f) c
