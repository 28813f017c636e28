-- The declarations of an actor with its public and system functions: what each becomes.
use Rattle.std.specs.Prelude.{ℕ, false, List, [], ◌∷◌, None}
use Rattle.mo_types.specs.declared.node.TypeId.{TypeId}
use Rattle.mo_types.specs.Graph.{Slot}
use Rattle.subtype_laws.specs.Reached.{Among}
use Rattle.typing_rules.specs.AbstractSyntax.{Declaration, Declarations}
use Rattle.typing_rules.specs.AbstractSyntax as p
use Rattle.typing_rules.specs.AsyncPlaces.{Other}
use Rattle.typing_rules.specs.Contexts.{Context, directly}
use Rattle.typing_rules.specs.DeclaredTypes.{with_list}
use Rattle.typing_rules.specs.Definitions.{Definitions}
use Rattle.typing_rules.specs.Expressions.{JudgeOrder, JudgeBodies}
use Rattle.typing_rules.specs.Gathered.{in_list}
use Rattle.typing_rules.specs.Lists.{Made, Entry as Given, Listed}
use Rattle.typing_rules.specs.Terms.{Term, unit}
use Rattle.typing_rules.specs.TypedTrees.{Note}
use Rattle.typing_rules.specs.TypeScopes.{TypeScope}
use Rattle.desugaring.specs.FreeNames.{occurring}
use Rattle.desugaring_laws.specs.GraphOf.{IsGraphOf}
use Rattle.desugaring_laws.specs.Scopes.{IsScopeFine, AreBoundsIn}
use Rattle.desugaring_laws.specs.Yields.{Yields}
use Rattle.expression_laws.specs.Results.{AreTyped}
use Rattle.scope_laws.specs.Gathers.{Gathers}
use Rattle.block_laws.specs.Bound.{IsSameForm}
use Rattle.block_laws.specs.Lists.{AreReady, ListMade, method_term, in_scope, behind}
use Rattle.method_laws.specs.Methods.{method_uses, IsMethodFine, MethodMade, SystemMade}

module _ (defs : Definitions) (slots : List Slot) (terms : List Term) (number : Term → TypeId) where
  -- what is asked of public and system functions besides
  abbrev pub IsReadyBehind : TypeScope → Declaration ℕ → Type 0
  IsReadyBehind s (p.Method query context x g body) = IsMethodFine context g × AreTyped defs slots terms number s body
  IsReadyBehind s (p.System x body) = AreTyped defs slots terms number s body
  IsReadyBehind s _ = Unit {0}

  abbrev pub AreReadyBehind : TypeScope → Declarations ℕ → Type 0
  AreReadyBehind s p.End = Unit {0}
  AreReadyBehind s (p.Then public n d rest) = IsReadyBehind s d × AreReadyBehind s rest

  -- what a declaration becomes, with all that is known at the end: a public or system function is typed there, and another is of its own form
  abbrev pub IsBehind : Context → Declaration ℕ → Given → Made → Type 0
  IsBehind end (p.Method query context x g body) one m = MethodMade defs slots terms number (method_uses context g body) end query x (method_term end.types query g) m
  IsBehind end (p.System x body) one m = SystemMade defs slots terms number (occurring body) end x m
  IsBehind end (p.Func x g body) one m = by m.1 where
    by : Declaration Note → Type 0
    by (p.Func y h b) = Unit {0}
    by _ = ⊥
  IsBehind end (p.Class x g fields) one m = by m.1 where
    by : Declaration Note → Type 0
    by (p.Class y h ds) = Unit {0}
    by _ = ⊥
  IsBehind end (p.TypeAlias x parameters u) one m = by m.1 where
    by : Declaration Note → Type 0
    by (p.TypeAlias y ps v) = Unit {0}
    by _ = ⊥
  IsBehind end d one m = IsSameForm d one.scope m

  abbrev pub AreBehind : Context → Declarations ℕ → List Given → Declarations Note → Type 0
  AreBehind end p.End [] p.End = Unit {0}
  AreBehind end (p.Then public n d rest) (one ∷ ones) (p.Then public_too l b bs) = IsBehind end d one (l, b) × AreBehind end rest ones bs
  AreBehind end _ _ _ = ⊥

  -- what the list of an actor gives
  pub record ActorMade (e : Context) (ds : Declarations ℕ) (q : Term × Declarations Note) : Type 0 where
    pub list : ListMade defs slots terms number [] false e ds None q
    pub behind_list : AreBehind (directly Other (record (in_scope e ds) { values = behind list.given (in_scope e ds).values })) ds list.given q.1

-- Each declaration of an actor becomes a typed one where it stands, and each public and system function a typed one behind them.
abbrev pub ActorsAreMade : Type 0
ActorsAreMade =
    (defs : Definitions) (slots : List Slot) (terms : List Term) (number : Term → TypeId) → IsGraphOf defs slots terms number → Among unit terms → (at : ℕ) (e : Context) → IsScopeFine defs [] e.types → AreBoundsIn [] defs → (ds : Declarations ℕ)
    → Gathers defs (in_list (with_list e.types ds) ds) → AreReady defs slots terms number (with_list e.types ds) ds → AreReadyBehind defs slots terms number (with_list e.types ds) ds
    → Yields defs terms (Listed defs (directly Other e) ds (λ known. JudgeOrder defs known at false ds None None) (λ known made. JudgeBodies defs known ds made)) (ActorMade defs slots terms number e ds)
