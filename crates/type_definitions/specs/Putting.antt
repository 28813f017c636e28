-- What is put in the place of type parameters.
use Rattle.std.specs.Prelude.{◌≡◌, ℕ, map, Bool, true, false, List, Option, Some, None, slice_get}
use Rattle.type_terms.specs.declared.form.Form.{Form}
use Rattle.type_terms.specs.declared.form.TermId.{TermId}
use Rattle.typing_rules.specs.Terms.{Term, put_in}
use Rattle.typing_rules.specs.Terms as t
use Rattle.type_definitions.specs.Meanings.{term}
use Rattle.type_definitions.specs.Places.{first_place}

abbrev pub at_place : List TermId → Option ℕ → Option TermId
at_place ids None = None
at_place ids (Some place) = slice_get ids place

-- the argument of a parameter
abbrev pub argument_at : List ℕ → List TermId → ℕ → Option TermId
argument_at parameters ids p = at_place ids (first_place parameters p)

module _ (at : TermId → Term) where
  abbrev pub or_other : Option TermId → Bool → ℕ → Term
  or_other (Some id) stay p = at id
  or_other None true p = t.Parameter p
  or_other None false p = t.Bottom

  -- what is put in the place of a parameter, where these are the terms
  abbrev pub placed : List ℕ → List TermId → Bool → ℕ → Term
  placed parameters ids stay p = or_other (argument_at parameters ids p) stay p

module _ (parameters : List ℕ) (ids : List TermId) (stay : Bool) where
  -- b is a with these arguments put in
  abbrev pub IsPut : TermId → TermId → List Form → Type 0
  IsPut a b later = term later b ≡ put_in (placed (term later) parameters ids stay) (term later a)

  -- each of the one list is that of the other with these arguments put in
  abbrev pub ArePut : List TermId → List TermId → List Form → Type 0
  ArePut ps qs later = map (term later) qs ≡ map (λ p. put_in (placed (term later) parameters ids stay) (term later p)) ps
