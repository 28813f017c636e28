-- Lists of which it is asked that their names differ and are used where they stand, as blocks.
use Rattle.std.specs.Prelude.{◌≡◌, ℕ, Bool, true, List, Option, None}
use Rattle.mo_types.specs.declared.node.TypeId.{TypeId}
use Rattle.mo_types.specs.Graph.{Slot}
use Rattle.subtype_laws.specs.Reached.{Among}
use Rattle.typing_rules.specs.AbstractSyntax.{Declaration, Declarations}
use Rattle.typing_rules.specs.AbstractSyntax as p
use Rattle.typing_rules.specs.AsyncPlaces.{Other}
use Rattle.typing_rules.specs.Contexts.{Context, directly}
use Rattle.typing_rules.specs.DeclaredTypes.{with_list}
use Rattle.typing_rules.specs.Definitions.{Definitions}
use Rattle.typing_rules.specs.Expressions.{JudgeOrder, JudgeBodies}
use Rattle.typing_rules.specs.Gathered.{in_list}
use Rattle.typing_rules.specs.Lists.{Listed}
use Rattle.typing_rules.specs.Terms.{Term, unit}
use Rattle.typing_rules.specs.TypeScopes.{TypeScope}
use Rattle.desugaring_laws.specs.GraphOf.{IsGraphOf}
use Rattle.desugaring_laws.specs.Yields.{Yields}
use Rattle.scope_laws.specs.Gathers.{Gathers}
use Rattle.declaration_laws.specs.Objects.{AreBlocksTyped}
use Rattle.block_laws.specs.Lists.{AreReady}
use Rattle.block_laws.specs.Order.{IsInOrder}

-- Stable variables, public and system functions stand in actors only.
abbrev pub IsNested : Declaration ℕ → Type 0
IsNested (p.Var true x u a) = ⊥
IsNested (p.Method query context x g body) = ⊥
IsNested (p.System x body) = ⊥
IsNested _ = Unit {0}

abbrev pub AreNested : Declarations ℕ → Type 0
AreNested p.End = Unit {0}
AreNested (p.Then public n d rest) = IsNested d × AreNested rest

module _ (defs : Definitions) (slots : List Slot) (terms : List Term) (number : Term → TypeId) where
  -- The names of the list differ and are used where they stand, in what it is judged to be: one that has a value or not, in this scope of types.
  abbrev pub InOrder : Bool → TypeScope → Declarations ℕ → Type 0
  InOrder value scope ds =
      (e : Context) → e.types ≡ scope → (at : ℕ) (w : Option Term)
      → Yields defs terms (Listed defs (directly Other e) ds (λ known. JudgeOrder defs known at value ds None w) (λ known made. JudgeBodies defs known ds made)) (λ q. IsInOrder defs slots number (with_list scope ds) ds q.1)

  -- what is asked of the list of a block or an object in this scope of types
  pub record IsListReady (value : Bool) (scope : TypeScope) (ds : Declarations ℕ) : Type 0 where
    pub gathers : Gathers defs (in_list (with_list scope ds) ds)
    pub ready : AreReady defs slots terms number (with_list scope ds) ds
    pub in_order : InOrder value scope ds
    pub nested : AreNested ds

-- The list of a block becomes a block of its type wherever it stands.
abbrev pub ListsAreBlocks : Type 0
ListsAreBlocks =
    (defs : Definitions) (slots : List Slot) (terms : List Term) (number : Term → TypeId) → IsGraphOf defs slots terms number → Among unit terms → (scope : TypeScope) (ds : Declarations ℕ)
    → IsListReady defs slots terms number true scope ds → AreBlocksTyped defs slots terms number scope ds
