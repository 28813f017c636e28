-- The names of types in scope as the code has them, and the scope of the rules that they are.
use Rattle.std.specs.Prelude.{◌≡◌, ℕ, zero, suc, List, [], ◌∷◌, ◌++◌, length, take, Option, Some, None}
use Rattle.typing_rules.specs.AbstractSyntax.{Bytes}
use Rattle.typing_rules.specs.TypeScopes.{TypeName, IsParameter, IsDefinition, TypeScope, no_types, with_parameter, with_definition}
use Rattle.type_scopes.specs.declared.scope.Declared.{Declared}
use Rattle.type_scopes.specs.declared.scope.Declared.TheVariants as declared
use Rattle.type_scopes.specs.declared.scope.TypeName as value
use Rattle.type_scopes.specs.declared.scope.TypeName.TheVariants as name

-- the names, and what they are declared as, the outermost first
pub record Names : Type 0 where
  pub names : List Bytes
  pub declared : List Declared

abbrev pub both : List Bytes → List Declared → Names
both xs ds = record { names = xs; declared = ds }

-- one more name
abbrev pub with : Names → Bytes → Declared → Names
with s x d = both (s.names ++ x ∷ []) (s.declared ++ d ∷ [])

-- the first names alone
abbrev pub cut : ℕ → Names → Names
cut n s = both (take n s.names) (take n s.declared)

-- ---- the scope of the rules

abbrev pub enter : TypeScope → Bytes → Declared → TypeScope
enter s x (declared.Parameter at) = with_parameter s (record { at = at; bytes = x })
enter s x (declared.Definition at outer own) = with_definition s (record { at = at; bytes = x }) own

abbrev pub entered : TypeScope → List Bytes → List Declared → TypeScope
entered s (x ∷ xs) (d ∷ ds) = entered (enter s x d) xs ds
entered s _ _ = s

abbrev pub seen : Names → TypeScope
seen s = entered no_types s.names s.declared

-- what a name means by the rules
abbrev pub seen_name : value.TypeName → TypeName
seen_name (name.Parameter at) = IsParameter at
seen_name (name.Definition at outer own) = IsDefinition at outer.now own

-- ---- what is kept

abbrev pub outer_of : Declared → ℕ
outer_of (declared.Parameter at) = 0
outer_of (declared.Definition at outer own) = outer

-- what it means, where these are the parameters in scope
abbrev pub named : List ℕ → Declared → TypeName
named ps (declared.Parameter at) = IsParameter at
named ps (declared.Definition at outer own) = IsDefinition at (take outer ps) own

abbrev pub named_at : List ℕ → List Declared → Option ℕ → Option TypeName
named_at ps ds None = None
named_at ps [] (Some place) = None
named_at ps (d ∷ ds) (Some zero) = Some (named ps d)
named_at ps (d ∷ ds) (Some (suc place)) = named_at ps ds (Some place)

abbrev pub parameters_of : List Declared → List ℕ
parameters_of [] = []
parameters_of (declared.Parameter at ∷ ds) = at ∷ parameters_of ds
parameters_of (declared.Definition at outer own ∷ ds) = parameters_of ds

-- Each definition counts the parameters before it.
abbrev pub Counts : ℕ → List Declared → Type 0
Counts n [] = Unit {0}
Counts n (declared.Parameter at ∷ ds) = Counts (suc n) ds
Counts n (declared.Definition at outer own ∷ ds) = (outer ≡ n) × Counts n ds

pub record Fit (xs : List Bytes) (ds : List Declared) (ps : List ℕ) : Type 0 where
  pub as_many : length xs ≡ length ds
  pub parameters : ps ≡ parameters_of ds
  pub counts : Counts 0 ds
