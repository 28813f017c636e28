-- What is known of parts is known of the type that they make.
use Rattle.std.proofs.Common.{◌≡◌, ◌⊎◌, inl, inr, ℕ, zero, suc, ◌<◌, Bool, true, false, ◌&&◌, not, List, [], ◌∷◌, ◌++◌, length, map, Option, Some, None, slice_get, refl, sym, ap, ◌∙◌, subst}
use Rattle.mo_types.specs.declared.node.Field.{Field}
use Rattle.mo_types.specs.Sub.{Each}
use Rattle.type_terms.specs.declared.form.Form.{Form}
use Rattle.type_terms.specs.declared.form.Form.TheVariants as form
use Rattle.type_terms.specs.declared.form.TermId.{TermId}
use Rattle.type_terms.specs.Layouts.{layout, parts}
use Rattle.type_terms.specs.Tables.{PartsBelow}
use Rattle.typing_rules.specs.Terms.{Term, unlisted, argument_of}
use Rattle.type_definitions.specs.declared.definitions.Definition.{Definition}
use Rattle.type_definitions.specs.Meanings.{term, term_of, parts_at, fields_at}
use Rattle.type_definitions.specs.Tables.{Later}
use Rattle.type_definitions.specs.Places.{first_place}
use Rattle.type_definitions.specs.Putting as putting
use Rattle.type_definitions.specs.Putting.{or_other}
use Rattle.type_definitions.specs.Definitions.{Listed, definition_of}
use Rattle.type_definitions.specs.Outcomes.{argument_in}
use Rattle.type_definitions.proofs.Meanings.{term_later}
use Rattle.type_definitions.proofs.Leading as leading
use Rattle.shareable_types.specs.declared.needs.Needs.{Needs}
use Rattle.shareable_types.specs.Sharing.{every, all, allowed, of_argument, all_constant, each_shares, fields_share}
use Rattle.shareable_types.specs.Settled.{or_nothing, allowed_at, needed_at, parameters_at, shares_by, KnownParts, Knows}
use Rattle.shareable_types.specs.Parts.{constant_fields, allowed_or_none, argument_allowed, form_allowed}
use Rattle.shareable_types.proofs.Own.{same_own}
use Rattle.shareable_types.proofs.Substituted.{argument_is}
use Rattle.shareable_types.proofs.Round.{get_there}

all_alike : (x y : ℕ → Bool) → ((p : ℕ) → x p ≡ y p) → (ps : List ℕ) → all x ps ≡ all y ps
all_alike x y e [] = refl
all_alike x y e (p ∷ ps) = ap (λ b. b && all x ps) (e p) ∙ ap (λ b. y p && b) (all_alike x y e ps)

module _ (any : Bool) (l : Listed) (ns known : List Needs) (x : ℕ → Bool) (at : TermId → Term) where
  abbrev parameters : ℕ → List ℕ
  parameters n = parameters_at any l ns n

  abbrev needed : ℕ → Needs
  needed n = needed_at l.names ns n

  abbrev Known : TermId → Type 0
  Known p = shares_by any l ns x (at p) ≡ allowed_at x known p

  each_known : (ids : List TermId) → Each Known ids → each_shares any parameters needed x (unlisted (parts_at at ids)) ≡ map (allowed_at x known) ids
  each_known [] h = refl
  each_known (p ∷ ids) h = ap (λ b. b ∷ each_shares any parameters needed x (unlisted (parts_at at ids))) h.0 ∙ ap (λ bs. allowed_at x known p ∷ bs) (each_known ids h.1)

  fields_known : (fs : List (Field TermId)) → Each Known (map (λ m. m.part) fs) → fields_share any parameters needed x (fields_at at fs) ≡ map (λ f. allowed_at x known f.part) fs
  fields_known [] h = refl
  fields_known (f ∷ fs) h = ap (λ b. b ∷ fields_share any parameters needed x (fields_at at fs)) h.0 ∙ ap (λ bs. allowed_at x known f.part ∷ bs) (fields_known fs h.1)

  constant_known : (fs : List (Field TermId)) → all_constant (fields_at at fs) ≡ constant_fields fs
  constant_known [] = refl
  constant_known (f ∷ fs) = ap (λ b. not f.mutable && b) (constant_known fs)

  known_of : (ids : List TermId) → Each Known ids → (d : Option Definition) (p : ℕ) → shares_by any l ns x (or_other at (argument_in d ids p) false p) ≡ allowed_or_none x known (argument_in d ids p)
  known_of ids h d p = by (argument_in d ids p) (among d) where
    at_place : (ids : List TermId) → Each Known ids → (i : ℕ) (id : TermId) → slice_get ids i ≡ Some id → Known id
    at_place [] h i id e = cc
    at_place (q ∷ ids) h zero id e = let f : q ≡ id = cc in subst Known f h.0
    at_place (q ∷ ids) h (suc i) id e = at_place ids h.1 i id e

    among : (d : Option Definition) (id : TermId) → argument_in d ids p ≡ Some id → Known id
    among None id e = cc
    among (Some d) id e = place (first_place d.parameters p) e where
      place : (o : Option ℕ) → putting.at_place ids o ≡ Some id → Known id
      place None k = cc
      place (Some i) k = at_place ids h i id k

    by : (o : Option TermId) → ((id : TermId) → o ≡ Some id → Known id) → shares_by any l ns x (or_other at o false p) ≡ allowed_or_none x known o
    by None k = refl
    by (Some id) k = k id refl

  argument_known : (ids : List TermId) → Each Known ids → (n p : ℕ) → of_argument (parameters n) (each_shares any parameters needed x (unlisted (parts_at at ids))) p ≡ argument_allowed x known (definition_of l n) ids p
  argument_known ids h n p =
      argument_is any parameters needed x (parameters n) (unlisted (parts_at at ids)) p
      ∙ (ap (λ qs. shares_by any l ns x (argument_of qs (unlisted (parts_at at ids)) p)) (sym (same_own at (definition_of l n)))
      ∙ (ap (shares_by any l ns x) (leading.argument_found at (definition_of l n) ids p)
      ∙ known_of ids h (definition_of l n) p))

  and_true : (b : Bool) → (b && true) ≡ b
  and_true true = refl
  and_true false = refl

  nothing_behind : (ids : List TermId) → Each Known (ids ++ []) → Each Known ids
  nothing_behind [] h = tt
  nothing_behind (p ∷ ids) h = (h.0, nothing_behind ids h.1)

  pub form_known : (f : Form) → KnownParts any l ns x at known f → shares_by any l ns x (term_of at f) ≡ form_allowed any l ns known x f
  unfolding layout
  form_known (form.Number k) h = refl
  form_known form.Boolean h = refl
  form_known form.Character h = refl
  form_known form.Text h = refl
  form_known form.Blob h = refl
  form_known form.Principal h = refl
  form_known form.Error h = refl
  form_known form.Null h = refl
  form_known form.Any h = refl
  form_known form.Bottom h = refl
  form_known (form.Optional a) h = h.0 ∙ sym (and_true (allowed_at x known a))
  form_known (form.Array a) h = h.0 ∙ sym (and_true (allowed_at x known a))
  form_known (form.MutableArray a) h = refl
  form_known (form.Tuple ts) h = ap every (each_known ts (nothing_behind ts h))
  form_known (form.Object fs) h = ap (λ b. b && every (fields_share any parameters needed x (fields_at at fs))) (constant_known fs) ∙ ap (λ bs. constant_fields fs && every bs) (fields_known fs h)
  form_known (form.Actor fs) h = refl
  form_known (form.Variant fs) h = ap every (fields_known fs h)
  form_known (form.Function ps r) h = refl
  form_known (form.Shared s ps r) h = refl
  form_known (form.Async a) h = refl
  form_known (form.Parameter n) h = refl
  form_known (form.Use n ids) h =
      ap (λ b. not (needed n).never && b)
      (all_alike (of_argument (parameters n) (each_shares any parameters needed x (unlisted (parts_at at ids)))) (argument_allowed x known (definition_of l n) ids) (argument_known ids (nothing_behind ids h) n) (needed n).parameters)

module _ (any : Bool) (l : Listed) (ns : List Needs) (forms : List Form) where
  known_parts : (known : List Needs) → Knows any l ns forms known → (later : List Form) → Later forms later → (x : ℕ → Bool) (ids : List TermId) → Each (λ p. p.index < length known) ids
      → Each (λ p. shares_by any l ns x (term later p) ≡ allowed_at x known p) ids
  known_parts known k later h x [] b = tt
  known_parts known k later h x (p ∷ ids) b =
      let n = get_there known p.index b.0 in
      (k later h p n.0 n.1 x ∙ ap (λ o. allowed x (or_nothing o)) (sym n.1), known_parts known k later h x ids b.1)

  pub none_known : Knows any l ns forms []
  none_known later h id n e x = cc

  last_or : {A : Type 0} (xs : List A) (y z : A) (i : ℕ) → slice_get (xs ++ y ∷ []) i ≡ Some z → (slice_get xs i ≡ Some z) ⊎ ((i ≡ length xs) × (y ≡ z))
  last_or [] y z zero e = inr (refl, cc)
  last_or [] y z (suc i) e = cc
  last_or (x ∷ xs) y z zero e = inl e
  last_or (x ∷ xs) y z (suc i) e = by (last_or xs y z i e) where
    by : (slice_get xs i ≡ Some z) ⊎ ((i ≡ length xs) × (y ≡ z)) → (slice_get xs i ≡ Some z) ⊎ ((suc i ≡ suc (length xs)) × (y ≡ z))
    by (inl k) = inl k
    by (inr k) = inr (ap suc k.0, k.1)

  pub one_more : (known : List Needs) (f : Form) (n : Needs) → Knows any l ns forms known → slice_get forms (length known) ≡ Some f → PartsBelow (length known) f
      → ((x : ℕ → Bool) → allowed x n ≡ form_allowed any l ns known x f) → Knows any l ns forms (known ++ n ∷ [])
  one_more known f n k there below is later h id m e x = by (last_or known n m id.index e) where
    by : (slice_get known id.index ≡ Some m) ⊎ ((id.index ≡ length known) × (n ≡ m)) → shares_by any l ns x (term later id) ≡ allowed x m
    by (inl g) = k later h id m g x
    by (inr g) =
        ap (shares_by any l ns x) (term_later forms later id f h (ap (slice_get forms) g.0 ∙ there))
        ∙ (form_known any l ns known x (term later) f (known_parts known k later h x (parts f) below)
        ∙ (sym (is x) ∙ ap (allowed x) g.1))
