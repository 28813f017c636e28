-- What is given has the names of what was judged: all that are bound where it stands, and no others. A name that is not bound may be one of a module, which
-- is no name any more in what is given.
use Rattle.std.specs.Prelude.{◌≡◌, ℕ, List, Some}
use Rattle.mo_scopes.specs.Scopes.{named}
use Rattle.subtype_laws.specs.Reached.{Among}
use Rattle.typing_rules.specs.AbstractSyntax.{Bytes, Declaration, Declarations}
use Rattle.typing_rules.specs.AbstractSyntax as p
use Rattle.typing_rules.specs.Contexts.{Bound, Scope}
use Rattle.typing_rules.specs.TypedTrees.{Note}
use Rattle.desugaring.specs.FreeNames.{names_of, names_of_list, function_name, defined_by, in_declaration}
use Rattle.kept_names.specs.Plain.{DeclarationIsPlain}

abbrev pub IsBound : Scope → Bytes → Type 0
IsBound s y = (b : Bound) × (named s y ≡ Some b)

-- these names in a source of which this is known, and those in what is given
pub record Keeps (s : Scope) (Source : Type 0) (xs ys : List Bytes) : Type 0 where
  pub plain : Source
  pub fewer : (y : Bytes) → Among y ys → Among y xs
  pub kept : (y : Bytes) → Among y xs → IsBound s y → Among y ys

-- a declaration as it is written and as it is given
pub record DeclarationKept (s : Scope) (d : Declaration ℕ) (b : Declaration Note) : Type 0 where
  pub names : names_of b ≡ names_of d
  pub defines : defined_by b ≡ defined_by d
  pub function : function_name b ≡ function_name d
  pub keeps : Keeps s (DeclarationIsPlain d) (in_declaration d) (in_declaration b)

-- Functions and classes are judged where all names of their list are bound.
abbrev pub scope_of : Scope → Scope → Declaration ℕ → Scope
scope_of s t (p.Func x g body) = t
scope_of s t (p.Class x g fields) = t
scope_of s t _ = s

abbrev pub AllKept : Scope → Scope → Declarations ℕ → Declarations Note → Type 0
AllKept s t p.End p.End = Unit {0}
AllKept s t (p.Then public n d rest) (p.Then public_too m b bs) = DeclarationKept (scope_of s t d) d b × AllKept s t rest bs
AllKept s t _ _ = ⊥

-- a list, with what is bound around it
pub record ListKept (s : Scope) (ds : Declarations ℕ) (bs : Declarations Note) : Type 0 where
  -- what is bound at its end
  pub inner : Scope
  pub around : (y : Bytes) → IsBound s y → IsBound inner y
  pub own : (y : Bytes) → Among y (names_of_list ds) → IsBound inner y
  pub each : AllKept s inner ds bs
