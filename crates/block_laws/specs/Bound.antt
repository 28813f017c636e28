-- What the declarations of a list bind, by the types that are written of them.
use Rattle.std.specs.Prelude.{◌≡◌, ℕ, List, [], ◌∷◌, ◌++◌, Some, None}
use Rattle.typing_rules.specs.AbstractSyntax.{TypeNode, Pattern, Patterns, PatternFields, Declaration, Declarations}
use Rattle.typing_rules.specs.AbstractSyntax as p
use Rattle.typing_rules.specs.Contexts.{Scope, variable}
use Rattle.typing_rules.specs.Lists.{Made, Entry as Given}
use Rattle.typing_rules.specs.Terms as t
use Rattle.typing_rules.specs.TypedTrees.{Note}
use Rattle.typing_rules.specs.TypeScopes.{TypeScope, term}
use Rattle.desugaring_laws.specs.Names.{Names, entered}

abbrev mutual
  -- each name of the pattern stands directly under its type
  pub IsAnnotated : Pattern ℕ → Type 0
  IsAnnotated (p.pattern at (p.Annotated (p.pattern inner (p.Variable x)) a)) = Unit {0}
  IsAnnotated (p.pattern at (p.Annotated q a)) = IsAnnotated q
  IsAnnotated (p.pattern at (p.Alternative q r)) = Unit {0}
  IsAnnotated (p.pattern at (p.Optional q)) = IsAnnotated q
  IsAnnotated (p.pattern at (p.Tag x)) = Unit {0}
  IsAnnotated (p.pattern at (p.Tagged x q)) = IsAnnotated q
  IsAnnotated (p.pattern at (p.Variable x)) = ⊥
  IsAnnotated (p.pattern at p.Wildcard) = Unit {0}
  IsAnnotated (p.pattern at (p.Constant minus l)) = Unit {0}
  IsAnnotated (p.pattern at (p.Tuple items)) = AreAnnotated items
  IsAnnotated (p.pattern at (p.Object fields)) = FieldsAreAnnotated fields

  pub AreAnnotated : Patterns ℕ → Type 0
  AreAnnotated p.Nil = Unit {0}
  AreAnnotated (p.Cons q rest) = IsAnnotated q × AreAnnotated rest

  pub FieldsAreAnnotated : PatternFields ℕ → Type 0
  FieldsAreAnnotated p.NoFields = Unit {0}
  FieldsAreAnnotated (p.Field x q rest) = IsAnnotated q × FieldsAreAnnotated rest

abbrev mutual
  -- the names of such a pattern with their types
  pub written_names : TypeScope → Pattern ℕ → Names
  written_names s (p.pattern at (p.Annotated (p.pattern inner (p.Variable x)) a)) = (x, term s a) ∷ []
  written_names s (p.pattern at (p.Annotated q a)) = written_names s q
  written_names s (p.pattern at (p.Alternative q r)) = []
  written_names s (p.pattern at (p.Optional q)) = written_names s q
  written_names s (p.pattern at (p.Tag x)) = []
  written_names s (p.pattern at (p.Tagged x q)) = written_names s q
  written_names s (p.pattern at (p.Variable x)) = (x, t.Bottom) ∷ []
  written_names s (p.pattern at p.Wildcard) = []
  written_names s (p.pattern at (p.Constant minus l)) = []
  written_names s (p.pattern at (p.Tuple items)) = written_in_each s items
  written_names s (p.pattern at (p.Object fields)) = written_in_fields s fields

  pub written_in_each : TypeScope → Patterns ℕ → Names
  written_in_each s p.Nil = []
  written_in_each s (p.Cons q rest) = written_names s q ++ written_in_each s rest

  pub written_in_fields : TypeScope → PatternFields ℕ → Names
  written_in_fields s p.NoFields = []
  written_in_fields s (p.Field x q rest) = written_names s q ++ written_in_fields s rest

-- the declaration that it becomes is of the same form; a variable is bound to the type of its note
abbrev pub IsSameForm : Declaration ℕ → Scope → Made → Type 0
IsSameForm (p.Let q a) s m = by m.1 where
  by : Declaration Note → Type 0
  by (p.Let r b) = Unit {0}
  by _ = ⊥
IsSameForm (p.Var stable x u a) s m = by m.1 where
  by : Declaration Note → Type 0
  by (p.Var stable_too y v b) = (stable_too ≡ stable) × (y ≡ x) × (s ≡ (x.bytes, variable m.0.type) ∷ [])
  by _ = ⊥
IsSameForm (p.NamedObject x fields) s m = by m.1 where
  by : Declaration Note → Type 0
  by (p.NamedObject y ds) = y ≡ x
  by _ = ⊥
IsSameForm (p.Evaluate a) s m = by m.1 where
  by : Declaration Note → Type 0
  by (p.Evaluate b) = Unit {0}
  by _ = ⊥
IsSameForm _ s m = ⊥

-- one declaration is given, of the same form
abbrev pub GivesOne : Declaration ℕ → Given → Type 0
GivesOne d one = (m : Made) × (one.made ≡ m ∷ []) × IsSameForm d one.scope m

-- what is bound where types are written, that none but an expression has a value, and the declaration that is given
abbrev pub IsBoundSo : TypeScope → Declaration ℕ → Given → Type 0
IsBoundSo s (p.Let q a) one = (one.value ≡ None) × (IsAnnotated q → one.scope ≡ entered (written_names s q) []) × GivesOne (p.Let q a) one
IsBoundSo s (p.Var stable x u a) one = (one.value ≡ None) × ((v : TypeNode) → u ≡ Some v → one.scope ≡ (x.bytes, variable (term s v)) ∷ []) × GivesOne (p.Var stable x u a) one
IsBoundSo s (p.NamedObject x fields) one = (one.value ≡ None) × GivesOne (p.NamedObject x fields) one
IsBoundSo s (p.Evaluate a) one = GivesOne (p.Evaluate a) one
IsBoundSo s _ one = one.value ≡ None

abbrev pub AreBoundSo : TypeScope → Declarations ℕ → List Given → Type 0
AreBoundSo s p.End [] = Unit {0}
AreBoundSo s (p.Then public n d rest) (one ∷ ones) = IsBoundSo s d one × AreBoundSo s rest ones
AreBoundSo s _ _ = ⊥
