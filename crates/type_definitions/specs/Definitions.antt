-- Definitions as the code has them, and what they are to the rules.
use Rattle.std.specs.Prelude.{◌≡◌, ℕ, length, List, [], ◌∷◌, take, drop, Option, Some, None, slice_get}
use Rattle.mo_types.specs.Sub.{Each}
use Rattle.type_terms.specs.declared.form.Form.{Form}
use Rattle.type_terms.specs.declared.form.TermId.{TermId}
use Rattle.typing_rules.specs.Terms.{Term}
use Rattle.typing_rules.specs.Definitions as d
use Rattle.type_definitions.specs.declared.definitions.Definition.{Definition}
use Rattle.type_definitions.specs.Meanings.{term}
use Rattle.type_definitions.specs.Places.{first_place}
use Rattle.type_definitions.specs.Tables.{Within}

pub record Listed : Type 0 where
  pub names : List ℕ
  pub types : List Definition
  pub bounded : List ℕ
  pub bounds : List TermId

abbrev pub listed : List ℕ → List Definition → List ℕ → List TermId → Listed
listed names types bounded bounds = record { names = names; types = types; bounded = bounded; bounds = bounds }

abbrev pub at_place : {A : Type 0} → List A → Option ℕ → Option A
at_place xs None = None
at_place xs (Some place) = slice_get xs place

-- the definition of a name
abbrev pub definition_of : Listed → ℕ → Option Definition
definition_of l at = at_place l.types (first_place l.names at)

-- the bound of a parameter
abbrev pub bound_of : Listed → ℕ → Option TermId
bound_of l at = at_place l.bounds (first_place l.bounded at)

-- ---- where these are the terms

module _ (at : TermId → Term) where
  abbrev pub as_rule : ℕ → Definition → d.Definition
  as_rule n x = record { at = n; outer = take x.outer x.parameters; own = drop x.outer x.parameters; right = at x.right }

  abbrev pub as_rules : List ℕ → List Definition → List d.Definition
  as_rules (n ∷ ns) (x ∷ xs) = as_rule n x ∷ as_rules ns xs
  as_rules _ _ = []

  abbrev pub as_bounds : List ℕ → List TermId → List d.Bounded
  as_bounds (n ∷ ns) (b ∷ bs) = record { at = n; bound = at b } ∷ as_bounds ns bs
  as_bounds _ _ = []

  abbrev pub types_at : Listed → List d.Definition
  types_at l = as_rules l.names l.types

  -- the definitions of the rules that these are
  abbrev pub rules_at : Listed → d.Definitions
  rules_at l = record { types = types_at l; parameters = as_bounds l.bounded l.bounds }

-- those that these are in a table
abbrev pub types_in : List Form → Listed → List d.Definition
types_in later l = types_at (term later) l

abbrev pub rules_in : List Form → Listed → d.Definitions
rules_in later l = rules_at (term later) l

-- There are as many names as definitions, and as many parameters as bounds, and their types stand in the table.
pub record Stand (forms : List Form) (l : Listed) : Type 0 where
  pub as_many : length l.names ≡ length l.types
  pub as_many_bounds : length l.bounded ≡ length l.bounds
  pub types : Each (λ x. Within forms x.right) l.types
  pub bounds : Each (Within forms) l.bounds
