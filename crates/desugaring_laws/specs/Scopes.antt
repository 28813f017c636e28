-- Types whose type parameters are in scope.
use Rattle.std.specs.Prelude.{◌≡◌, ℕ, List, Some}
use Rattle.mo_types.specs.Sub.{Each}
use Rattle.typed_tree.specs.Instances.{IsAmong}
use Rattle.typing_rules.specs.AbstractSyntax.{Bytes}
use Rattle.typing_rules.specs.Definitions.{Definitions, bound_at, reaches}
use Rattle.typing_rules.specs.Terms.{Term, Terms, Fields}
use Rattle.typing_rules.specs.Terms as t
use Rattle.typing_rules.specs.TypeScopes.{TypeName, IsParameter, IsDefinition, TypeScope, type_named}

module _ (vs : List ℕ) where
  abbrev mutual
    -- the type parameters in a type, also in the arguments of names, are among these
    pub IsIn : Term → Type 0
    IsIn (t.Optional a) = IsIn a
    IsIn (t.Array a) = IsIn a
    IsIn (t.MutableArray a) = IsIn a
    IsIn (t.Tuple parts) = AreIn parts
    IsIn (t.Object fields) = FieldsAreIn fields
    IsIn (t.Actor methods) = FieldsAreIn methods
    IsIn (t.Variant tags) = FieldsAreIn tags
    IsIn (t.Function ps r) = AreIn ps × IsIn r
    IsIn (t.Shared how ps r) = AreIn ps × IsIn r
    IsIn (t.Async a) = IsIn a
    IsIn (t.Parameter v) = IsAmong v vs
    IsIn (t.Use at arguments) = AreIn arguments
    IsIn _ = Unit {0}

    pub AreIn : Terms → Type 0
    AreIn t.Nil = Unit {0}
    AreIn (t.Cons u rest) = IsIn u × AreIn rest

    pub FieldsAreIn : Fields → Type 0
    FieldsAreIn t.NoFields = Unit {0}
    FieldsAreIn (t.WithField l mutable u rest) = IsIn u × FieldsAreIn rest

  -- a type parameter in scope, or a definition in the scope of such
  abbrev pub IsNameIn : TypeName → Type 0
  IsNameIn (IsParameter at) = IsAmong at vs
  IsNameIn (IsDefinition at outer own) = Each (λ v. IsAmong v vs) outer

  -- the bounds of these mention only these
  abbrev pub AreBoundsIn : Definitions → Type 0
  AreBoundsIn defs = (v : ℕ) → IsAmong v vs → IsIn (bound_at defs.parameters v)

-- a definition does not stand for a future, by however many definitions it is followed
abbrev pub IsNoFuture : Definitions → ℕ → Type 0
IsNoFuture defs at = (n : ℕ) (a : Term) → reaches defs.types n at ≡ Some (t.Async a) → ⊥

-- names of types, where these type parameters and no others are in scope
pub record IsScopeFine (defs : Definitions) (vs : List ℕ) (s : TypeScope) : Type 0 where
  pub names : (x : Bytes) (d : TypeName) → type_named s x ≡ Some d → IsNameIn s.parameters d
  pub futures : (x : Bytes) (at : ℕ) (outer : List ℕ) (own : ℕ) → type_named s x ≡ Some (IsDefinition at outer own) → IsNoFuture defs at
  pub parameters : Each (λ v. IsAmong v vs) s.parameters
  pub others : Each (λ v. IsAmong v s.parameters) vs
