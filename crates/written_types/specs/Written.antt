-- Terms that are made of written types.
use Rattle.std.specs.Prelude.{◌≡◌, ℕ, List, [], ◌∷◌, ◌++◌, Option, Some, None, map}
use Rattle.mo_types.specs.declared.node.Field.{Field}
use Rattle.mo_types.specs.Sub.{Each}
use Rattle.mo_syntax.specs.declared.types.Sharing.{Sharing}
use Rattle.mo_syntax.specs.declared.types.Sharing.TheVariants as sharing
use Rattle.mo_types.specs.declared.node.Sort.{Sort}
use Rattle.mo_types.specs.declared.node.Sort.TheVariants as sort
use Rattle.mo_subtype.specs.Renamed.{on_field}
use Rattle.type_terms.specs.declared.form.Form.{Form}
use Rattle.type_terms.specs.declared.form.TermId.{TermId}
use Rattle.typing_rules.specs.AbstractSyntax.{Bytes, TypeFields}
use Rattle.typing_rules.specs.AbstractSyntax as p
use Rattle.typing_rules.specs.Terms.{Term, Fields}
use Rattle.typing_rules.specs.Terms as t
use Rattle.typing_rules.specs.TypeScopes.{TypeScope, TypeName, built_in_term, field_terms, use_term}
use Rattle.mo_scopes.specs.Scopes.{built_in_types, named}
use Rattle.type_terms.specs.Layouts.{parts}
use Rattle.type_definitions.specs.Meanings.{term, term_of}
use Rattle.type_definitions.specs.Tables.{IsTermOf, Later, Makes, MakesList, Within}
use Rattle.definition_rules.specs.Bounds.{Same}
use Rattle.met_types.specs.States.{State}

-- it is this term
abbrev pub Is : Term → TermId → List Form → Type 0
Is u id later = term later id ≡ u

-- the term was made
pub record Wrote (old new : State) (u : Term) (id : TermId) : Type 0 where
  pub same : Same old new
  pub made : Makes old.forms (Is u id) id new.forms

-- the term of the form was made
pub record Interned (old new : State) (f : Form) (id : TermId) : Type 0 where
  pub same : Same old new
  pub made : Makes old.forms (IsTermOf f id) id new.forms

-- these are the terms
abbrev pub Are : List Term → List TermId → List Form → Type 0
Are us ids later = map (term later) ids ≡ us

-- the terms were made
pub record WroteEach (old new : State) (us : List Term) (ids : List TermId) : Type 0 where
  pub same : Same old new
  pub made : MakesList old.forms (Are us ids) ids new.forms

-- how a function is called
abbrev pub sort_of : Sharing → Sort
sort_of sharing.Local = sort.Local
sort_of sharing.Shared = sort.Shared
sort_of sharing.SharedQuery = sort.Query

-- the type T of `async T`
abbrev pub awaited : p.TypeNode → Option p.TypeNode
awaited (p.node at (p.Async a)) = Some a
awaited _ = None

-- what a shared function promises
abbrev pub promised : Sharing → p.TypeNode → Option p.TypeNode
promised sharing.Local n = None
promised sharing.Shared n = awaited n
promised sharing.SharedQuery n = awaited n

-- ---- fields

-- the fields before others
abbrev pub with_fields : List (Field Term) → Fields → Fields
with_fields [] rest = rest
with_fields (f ∷ fs) rest = t.WithField f.label f.mutable f.part (with_fields fs rest)

abbrev pub joined : List (TypeFields → TypeFields) → TypeFields → TypeFields
joined [] rest = rest
joined (f ∷ fs) rest = f (joined fs rest)

-- the field was made
pub record WroteField (old new : State) (s : TypeScope) (written : TypeFields → TypeFields) (made : Field TermId) : Type 0 where
  pub same : Same old new
  pub within : Within new.forms made.part
  pub is : (later : List Form) → Later new.forms later → (rest : TypeFields) → field_terms s (written rest) ≡ with_fields (on_field (term later) made ∷ []) (field_terms s rest)

-- the fields were made
pub record WroteFields (old new : State) (s : TypeScope) (written : List (TypeFields → TypeFields)) (made : List (Field TermId)) : Type 0 where
  pub same : Same old new
  pub within : Each (Within new.forms) (map (λ f. f.part) made)
  pub is : (later : List Form) → Later new.forms later → (rest : TypeFields) → field_terms s (joined written rest) ≡ with_fields (map (on_field (term later)) made) (field_terms s rest)

-- ---- names

-- the use of a name at these arguments
abbrev pub IsUse : Bytes → Option TypeName → List TermId → TermId → List Form → Type 0
IsUse x o arguments id later = term later id ≡ use_term x o (t.unlisted (map (term later) arguments))

-- the use of the name at these arguments was made
pub record Used (old new : State) (x : Bytes) (o : Option TypeName) (arguments : List TermId) (id : TermId) : Type 0 where
  pub same : Same old new
  pub made : Makes old.forms (IsUse x o arguments id) id new.forms

-- these parameters and then the arguments
pub record WithOuter (old new : State) (outer : List ℕ) (arguments ids : List TermId) : Type 0 where
  pub same : Same old new
  pub made : MakesList old.forms (λ later. map (term later) ids ≡ map t.Parameter outer ++ map (term later) arguments) ids new.forms

-- the form has no parts, and is that of the built-in type of this name
pub record Plain (x : Bytes) (f : Form) : Type 0 where
  pub none : parts f ≡ []
  pub is : (at : TermId → Term) → term_of at f ≡ built_in_term (named built_in_types x)
