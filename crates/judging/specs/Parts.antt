-- What holds while a program is judged.
use Rattle.std.specs.Prelude.{◌≡◌, ◌⊎◌, true, false, Option, Some, IfSome}
use Rattle.mo_types.specs.Sub.{Each}
use Rattle.type_terms.specs.declared.form.TermId.{TermId}
use Rattle.type_definitions.specs.Tables.{Within}
use Rattle.met_types.specs.States.{Kept, IsReached}
use Rattle.shareable_types.specs.Answers.{Stands}
use Rattle.value_scopes.specs.declared.place.Place.{Place}
use Rattle.value_scopes.specs.declared.scopes.Scopes.{Scopes}
use Rattle.value_scopes.specs.Values.{Hold}
use Rattle.judging.specs.declared.checker.Checker.{Checker}
use Rattle.judging.specs.declared.site.Site.{Site}

-- What is known of types holds of those that are met.
pub record Known (k : Checker) : Type 0 where
  pub kept : Kept k.types
  pub messages : Stands k.types k.messages
  pub any : k.messages.any ≡ true
  pub equality : Stands k.types k.equality
  pub no_any : k.equality.any ≡ false

-- The types of names stand in the table, and those of labels were met.
pub record Sound (k : Checker) (c : Scopes) : Type 0 where
  pub known : Known k
  pub values : Hold k.types.forms c.values
  pub labels : Each (λ q. IsReached k.types q.1.kind) c.labels

-- the type that is wanted was met
pub record Wanting (k : Checker) (x : Site) : Type 0 where
  pub kept : Kept k.types
  pub wanted : IfSome x.wanted (IsReached k.types)

-- a rule can be applied there
pub record Ready (k : Checker) (c : Scopes) (x : Site) : Type 0 where
  pub sound : Sound k c
  pub returns : IfSome x.place.returns (IsReached k.types)
  pub wanting : Wanting k x

-- it was met, or is what is wanted, and so is met first
abbrev pub IsReachedFirst : Checker → Option TermId → TermId → Type 0
IsReachedFirst k w id = IsReached k.types id ⊎ (w ≡ Some id)

-- an expression can be judged there, of which this is wanted
pub record Entering (k : Checker) (c : Scopes) (y : Place) (w : Option TermId) : Type 0 where
  pub known : Known k
  pub values : Hold k.types.forms c.values
  pub labels : Each (λ q. IsReachedFirst k w q.1.kind) c.labels
  pub returns : IfSome y.returns (IsReachedFirst k w)
  pub wanted : IfSome w (Within k.types.forms)
