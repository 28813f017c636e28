-- The order of evaluation of a list, by the names that its declarations define and use.
use Rattle.std.specs.Prelude.{ℕ, zero, suc, List, [], ◌∷◌, map, ◌⊎◌}
use Rattle.mo_types.specs.declared.node.TypeId.{TypeId}
use Rattle.mo_types.specs.Graph.{Slot, head_at}
use Rattle.subtype_laws.specs.Reached.{Among}
use Rattle.typed_tree.specs.OperationTypes.{Distinct}
use Rattle.typed_tree.specs.Placing.{Declared, place}
use Rattle.typed_tree.specs.Typing.{generic as stands_for}
use Rattle.typing_rules.specs.AbstractSyntax.{Bytes, Declaration, Declarations}
use Rattle.typing_rules.specs.AbstractSyntax as p
use Rattle.typing_rules.specs.Contexts.{Scope, generic}
use Rattle.typing_rules.specs.DeclaredTypes.{function_term, class_term}
use Rattle.typing_rules.specs.Definitions.{Definitions}
use Rattle.typing_rules.specs.Lists.{Entry as Given}
use Rattle.typing_rules.specs.Terms.{Term}
use Rattle.typing_rules.specs.TypedTrees.{Note}
use Rattle.typing_rules.specs.TypeScopes.{TypeScope}
use Rattle.desugaring.specs.Expressions.{pieces}
use Rattle.desugaring.specs.FreeNames.{names_in, names_of_list, in_declaration, in_declarations, declared, without}
use Rattle.list_laws.specs.Facts.{Fact, Evaluates, IsFunction, Other, DefinedBefore, FunctionBefore}
use Rattle.declaration_laws.specs.Laws.{own_of}

-- what the first of these binds, and the others
abbrev pub first_scope : List Given → Scope
first_scope [] = []
first_scope (one ∷ ones) = one.scope

abbrev pub others : List Given → List Given
others [] = []
others (one ∷ ones) = ones

module _ (slots : List Slot) (number : Term → TypeId) (s : TypeScope) (all : List Declared) where
  -- what is known of a declaration in its list, where it is placed so and binds this
  abbrev pub fact_of : Declared → Declaration ℕ → Scope → Fact
  fact_of d (p.Let q a) z = Evaluates (names_in q) z
  fact_of d (p.Var stable x u a) z = Evaluates (x.bytes ∷ []) z
  fact_of d (p.NamedObject x fields) z = Evaluates (x.bytes ∷ []) z
  fact_of d (p.Func x g body) z = IsFunction x.bytes (place all d) (generic (own_of g) (function_term s g)) (stands_for (head_at slots) (own_of g) (number (function_term s g)))
  fact_of d (p.Class x g fields) z = IsFunction x.bytes (place all d) (generic (own_of g) (class_term s x g)) (stands_for (head_at slots) (own_of g) (number (class_term s x g)))
  fact_of d _ z = Other

  abbrev pub facts_of : Declarations ℕ → Declarations Note → List Given → List Fact
  facts_of (p.Then public n d rest) (p.Then public_too m b bs) given = fact_of (declared b) d (first_scope given) ∷ facts_of rest bs (others given)
  facts_of _ _ given = []

-- a name that stands where so many groups and so many declarations do
abbrev pub Reaches : List Bytes → List Fact → ℕ → ℕ → Bytes → Type 0
Reaches outer facts k n y = Among y outer ⊎ (DefinedBefore n y facts ⊎ FunctionBefore k y facts)

module _ (outer : List Bytes) (all : List Declared) (facts : List Fact) where
  -- the n-th declaration uses names only where they stand: a function behind its place
  abbrev pub UsesInOrder : ℕ → Declared → Declaration ℕ → Type 0
  UsesInOrder n d (p.Func x g body) = (y : Bytes) → Among y (in_declaration (p.Func x g body)) → Reaches outer facts (suc (place all d)) (place all d) y
  UsesInOrder n d (p.Class x g fields) = (y : Bytes) → Among y (in_declaration (p.Class x g fields)) → Reaches outer facts (suc (place all d)) (place all d) y
  UsesInOrder n d x = (y : Bytes) → Among y (in_declaration x) → Reaches outer facts (suc n) n y

  abbrev pub AllInOrder : ℕ → Declarations ℕ → Declarations Note → Type 0
  AllInOrder n (p.Then public m d rest) (p.Then public_too k b bs) = UsesInOrder n (declared b) d × AllInOrder (suc n) rest bs
  AllInOrder n _ _ = Unit {0}

-- What is asked of a list as it is written and as it is made: its names differ, and each is used only where it stands.
pub record IsInOrder (defs : Definitions) (slots : List Slot) (number : Term → TypeId) (s : TypeScope) (ds : Declarations ℕ) (made : Declarations Note) : Type 0 where
  pub differ : Distinct (names_of_list ds)
  pub used : (given : List Given) → let all = map (λ b. b.declared) (pieces defs number made) in
      AllInOrder (without (names_of_list ds) (in_declarations ds)) all (facts_of slots number s all ds made given) zero ds made
