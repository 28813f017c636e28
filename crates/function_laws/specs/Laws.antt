-- Functions without a name, calls and actor references, where they are written out.
use Rattle.std.specs.Prelude.{◌≡◌, ℕ, List, [], Option}
use Rattle.mo_types.specs.declared.node.TypeId.{TypeId}
use Rattle.mo_types.specs.Graph.{Slot}
use Rattle.subtype_laws.specs.Reached.{Among}
use Rattle.typed_tree.specs.OperationTypes.{Distinct}
use Rattle.typing_rules.specs.AbstractSyntax.{Bytes, TypeNode, Patterns, Signature, Expression, Expressions}
use Rattle.typing_rules.specs.AbstractSyntax as p
use Rattle.typing_rules.specs.Definitions.{Definitions}
use Rattle.typing_rules.specs.Terms.{Term, unit}
use Rattle.typing_rules.specs.TypeScopes.{TypeScope}
use Rattle.desugaring.specs.FreeNames.{names_in_each}
use Rattle.desugaring_laws.specs.GraphOf.{IsGraphOf}
use Rattle.desugaring_laws.specs.Written.{EachIsWritten}
use Rattle.expression_laws.specs.Laws.{EachIs}
use Rattle.expression_laws.specs.Results.{AreTyped}

-- parameters as they are written: their characters can be, and their names differ
pub record AreParametersFine (qs : Patterns ℕ) : Type 0 where
  pub written : EachIsWritten qs
  pub distinct : Distinct (names_in_each qs)

-- A function without a name, whose body becomes a typed tree wherever it stands, becomes one.
abbrev pub FunctionsAreTyped : Type 0
FunctionsAreTyped =
    (defs : Definitions) (slots : List Slot) (terms : List Term) (number : Term → TypeId) → IsGraphOf defs slots terms number → Among unit terms → (scope : TypeScope)
    → (n : ℕ) (g : Signature ℕ) (body : Expression ℕ) → g.generics ≡ [] → AreParametersFine g.parameters → AreTyped defs slots terms number scope body → AreTyped defs slots terms number scope (p.exp n (p.Function g body))

-- A call becomes a typed tree, where what is called and its arguments become such wherever they stand.
abbrev pub CallsAreTyped : Type 0
CallsAreTyped =
    (defs : Definitions) (slots : List Slot) (terms : List Term) (number : Term → TypeId) → IsGraphOf defs slots terms number → Among unit terms → (scope : TypeScope)
    → (n : ℕ) (g : Expression ℕ) (types : Option (List TypeNode)) (arguments : Expressions ℕ) → AreTyped defs slots terms number scope g → EachIs (AreTyped defs slots terms number scope) arguments
    → AreTyped defs slots terms number scope (p.exp n (p.Call g types arguments))

-- An actor reference with its type becomes a typed tree.
abbrev pub ReferencesAreTyped : Type 0
ReferencesAreTyped =
    (defs : Definitions) (slots : List Slot) (terms : List Term) (number : Term → TypeId) → IsGraphOf defs slots terms number → Among unit terms → (scope : TypeScope)
    → (n m : ℕ) (x : Bytes) (u : TypeNode) → AreTyped defs slots terms number scope (p.exp n (p.Annotated (p.exp m (p.ActorReference x)) u))
