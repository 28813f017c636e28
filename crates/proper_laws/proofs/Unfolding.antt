-- What a proper type unfolds to, and its head, where the definitions are proper.
use Rattle.std.proofs.Common.{◌≡◌, ◌≢◌, ℕ, zero, suc, Bool, true, false, List, [], ◌∷◌, ◌++◌, length, Option, Some, None, refl, subst}
use Rattle.std.specs.Prelude.{cond, nat_eq}
use Rattle.mo_types.specs.declared.node.Node.{Node}
use Rattle.mo_types.specs.declared.node.Node.TheVariants as node
use Rattle.mo_types.specs.declared.node.Sort.{Sort}
use Rattle.mo_types.specs.declared.node.Sort.TheVariants as sort
use Rattle.mo_types.specs.Heads.{async_of}
use Rattle.mo_types.specs.Sub.{Each}
use Rattle.typed_tree.specs.Instances.{types_in, field_types}
use Rattle.typed_tree.specs.Shareable.{HasShareableForm, PartsShareable, Shares, IsShareable}
use Rattle.typed_tree.specs.Types.{IsLawfulNode, HasNoFuture}
use Rattle.typing_rules.specs.Definitions.{Definition, Bounded, Definitions, definition_at, bound_at, at_reached, found_of, parameters_of, followed, each_followed, followed_right, reaches, reached, or_bottom, unfolded}
use Rattle.typing_rules.specs.Heads.{results, shape, head, promoted, promoted_once, bound_of, members_head}
use Rattle.typing_rules.specs.Terms.{Term, Terms, Fields, listed, listed_fields, argument_of}
use Rattle.typing_rules.specs.Terms as t
use Rattle.typing_rules.specs.Types.{ends}
use Rattle.proper_laws.specs.Proper.{IsProper, AreProper, FieldsAreProper, IsMet, ArePartsProper}
use Rattle.proper_laws.proofs.Putting.{put_proper}

module _ (defs : Definitions) where
  abbrev OptionProper : Option Term → Type 0
  OptionProper None = Unit {0}
  OptionProper (Some u) = IsProper defs u

  cond_proper : (b : Bool) (x y : Term) → IsProper defs x → IsProper defs y → IsProper defs (cond b x y)
  cond_proper true x y h k = h
  cond_proper false x y h k = k

  pub argument_proper : (ps : List ℕ) (arguments : Terms) (v : ℕ) → AreProper defs arguments → IsProper defs (argument_of ps arguments v)
  argument_proper [] arguments v h = tt
  argument_proper (p ∷ ps) t.Nil v h = tt
  argument_proper (p ∷ ps) (t.Cons u rest) v h = cond_proper (nat_eq p v) u (argument_of ps rest v) h.0 (argument_proper ps rest v h.1)

  option_cond : (b : Bool) (x y : Option Term) → OptionProper x → OptionProper y → OptionProper (cond b x y)
  option_cond true x y h k = h
  option_cond false x y h k = k

  found_proper : (ps : List ℕ) (os : List (Option Term)) (v : ℕ) → Each OptionProper os → OptionProper (found_of ps os v)
  found_proper [] os v h = tt
  found_proper (p ∷ ps) [] v h = tt
  found_proper (p ∷ ps) (o ∷ os) v h = option_cond (nat_eq p v) o (found_of ps os v) h.0 (found_proper ps os v h.1)

  at_reached_proper : (s : ℕ → Term) (find : ℕ → Option Term) → ((v : ℕ) → IsProper defs (s v)) → ((v : ℕ) → OptionProper (find v)) → (o : Option Term) → OptionProper o → OptionProper (at_reached s find o)
  at_reached_proper s find h k None p = tt
  at_reached_proper s find h k (Some (t.Parameter v)) p = k v
  at_reached_proper s find h k (Some u) p = put_proper defs s h u p

  module _ (below : ℕ → Option Term) (h : (at : ℕ) → OptionProper (below at)) where
    mutual
      follow_proper : (u : Term) → IsProper defs u → OptionProper (followed defs.types below u)
      follow_proper (t.Use at us) p =
          at_reached_proper (argument_of (parameters_of (definition_at defs.types at)) us) (found_of (parameters_of (definition_at defs.types at)) (each_followed defs.types below us))
          (λ v. argument_proper (parameters_of (definition_at defs.types at)) us v p) (λ v. found_proper (parameters_of (definition_at defs.types at)) (each_followed defs.types below us) v (each_follow_proper us p))
          (below at) (h at)
      follow_proper u p = p

      each_follow_proper : (us : Terms) → AreProper defs us → Each OptionProper (each_followed defs.types below us)
      each_follow_proper t.Nil p = tt
      each_follow_proper (t.Cons u rest) p = (follow_proper u p.0, each_follow_proper rest p.1)

  -- ---- by proper definitions

  abbrev DefinitionProper : Option Definition → Type 0
  DefinitionProper None = Unit {0}
  DefinitionProper (Some d) = IsProper defs d.right

  definition_cond : (b : Bool) (x y : Option Definition) → DefinitionProper x → DefinitionProper y → DefinitionProper (cond b x y)
  definition_cond true x y h k = h
  definition_cond false x y h k = k

  definition_proper : (ds : List Definition) (at : ℕ) → Each (λ d. IsProper defs d.right) ds → DefinitionProper (definition_at ds at)
  definition_proper [] at h = tt
  definition_proper (d ∷ ds) at h = definition_cond (nat_eq d.at at) (Some d) (definition_at ds at) h.0 (definition_proper ds at h.1)

  bound_proper_in : (bs : List Bounded) (at : ℕ) → Each (λ b. IsProper defs b.bound × (ends defs b.at ≡ true)) bs → IsProper defs (bound_at bs at)
  bound_proper_in [] at h = tt
  bound_proper_in (b ∷ bs) at h = cond_proper (nat_eq b.at at) b.bound (bound_at bs at) h.0.0 (bound_proper_in bs at h.1)

  -- ---- shareable parts

  parts_to : (r : Term) (parts : Terms) → unfolded defs.types r ≡ t.Tuple parts → (n : ℕ) → Shares (head defs) (suc n) r → Each (λ u. Shares (head defs) n u) (listed parts)
  unfolding head Shares
  parts_to r parts e n h = (subst (λ u. HasShareableForm (shape defs u) × PartsShareable (λ v. Shares (head defs) n v) (shape defs u)) e h).1

  first_by : (u : Term) (us : List Term) → ((n : ℕ) → Each (λ v. Shares (head defs) n v) (u ∷ us)) → IsShareable (head defs) u
  first_by u us h = record { by = λ n. (h n).0 }

  each_by : (us : List Term) → ((n : ℕ) → Each (λ v. Shares (head defs) n v) us) → Each (IsShareable (head defs)) us
  each_by [] h = tt
  each_by (u ∷ us) h = (first_by u us h, each_by us (λ n. (h n).1))

  results_shareable : (r : Term) → IsShareable (head defs) r → (u : Term) → unfolded defs.types r ≡ u → Each (IsShareable (head defs)) (results r u)
  results_shareable r h (t.Tuple parts) e = each_by (listed parts) (λ n. parts_to r parts e n (h.by (suc n)))
  results_shareable r h u e = (h, tt)

  each_both : (P : Term → Type 0) (xs ys : List Term) → Each P xs → Each P ys → Each P (xs ++ ys)
  each_both P [] ys h k = k
  each_both P (x ∷ xs) ys h k = (h.0, each_both P xs ys h.1 k)

  listed_proper : (us : Terms) → AreProper defs us → Each (IsProper defs) (listed us)
  listed_proper t.Nil h = tt
  listed_proper (t.Cons u rest) h = (h.0, listed_proper rest h.1)

  fields_proper : (fs : Fields) → FieldsAreProper defs fs → Each (IsProper defs) (field_types (listed_fields fs))
  fields_proper t.NoFields h = tt
  fields_proper (t.WithField l m u rest) h = (h.0, fields_proper rest h.1)

  results_proper : (r u : Term) → IsProper defs r → IsProper defs u → Each (IsProper defs) (results r u)
  results_proper r (t.Tuple parts) h k = listed_proper parts k.0
  results_proper r u h k = (h, tt)

  shared_lawful : (how : Sort) (ps rs : List Term) → how ≢ sort.Local → Each (IsShareable (head defs)) (ps ++ rs) → IsLawfulNode (head defs) (node.Func how ps rs)
  shared_lawful sort.Local ps rs h k = absurd (h refl)
  shared_lawful sort.Shared ps rs h k = k
  shared_lawful sort.Query ps rs h k = k

  pub proper_met : (u : Term) → IsProper defs u → IsMet defs u
  proper_met (t.Async a) h = absurd h
  proper_met u h = h

  module _ (whole : ArePartsProper defs defs) where
    right_proper : (below : ℕ → Option Term) → ((at : ℕ) → OptionProper (below at)) → (o : Option Definition) → DefinitionProper o → OptionProper (followed_right defs.types below o)
    right_proper below h None k = tt
    right_proper below h (Some d) k = follow_proper below h d.right k

    reaches_proper : (n at : ℕ) → OptionProper (reaches defs.types n at)
    reaches_proper zero at = tt
    reaches_proper (suc n) at = right_proper (reaches defs.types n) (λ v. reaches_proper n v) (definition_at defs.types at) (definition_proper defs.types at whole.0)

    or_proper : (o : Option Term) → OptionProper o → IsProper defs (or_bottom defs.types o)
    or_proper None h = tt
    or_proper (Some u) h = h

    pub unfolded_proper : (u : Term) → IsProper defs u → IsProper defs (unfolded defs.types u)
    unfolded_proper u h = or_proper (followed defs.types (reached defs.types) u) (follow_proper (reached defs.types) (λ at. reaches_proper (suc (length defs.types)) at) u h)

    pub bound_proper : (v : ℕ) → IsProper defs (bound_at defs.parameters v)
    bound_proper v = bound_proper_in defs.parameters v whole.1

    shape_lawful : (u : Term) → IsProper defs u → IsLawfulNode (head defs) (shape defs u) × Each (IsProper defs) (types_in (shape defs u))
    shape_lawful (t.Optional a) h = (tt, (h, tt))
    shape_lawful (t.Array a) h = (tt, (h, tt))
    shape_lawful (t.MutableArray a) h = (tt, (h, tt))
    shape_lawful (t.Tuple parts) h = (h.1, listed_proper parts h.0)
    shape_lawful (t.Object fields) h = (h.1, fields_proper fields h.0)
    shape_lawful (t.Actor methods) h = ((h.1, h.2, h.3), fields_proper methods h.0)
    shape_lawful (t.Variant tags) h = ((h.1, h.2), fields_proper tags h.0)
    shape_lawful (t.Function ps r) h = (refl, each_both (IsProper defs) (listed ps) (r ∷ []) (listed_proper ps h.0) (h.1, tt))
    shape_lawful (t.Shared how ps r) h = (
      shared_lawful how (listed ps) (results r (unfolded defs.types r)) h.2
          (each_both (IsShareable (head defs)) (listed ps) (results r (unfolded defs.types r)) h.3.1 (results_shareable r h.3.0 (unfolded defs.types r) refl)),
      each_both (IsProper defs) (listed ps) (results r (unfolded defs.types r)) (listed_proper ps h.0) (results_proper r (unfolded defs.types r) h.1 (unfolded_proper r h.1)),
    )
    shape_lawful (t.Async a) h = absurd h
    shape_lawful (t.Parameter v) h = (tt, (bound_proper v, tt))
    shape_lawful u h = (tt, tt)

    shape_no_future : (u : Term) → IsProper defs u → async_of (shape defs u) ≡ None
    shape_no_future (t.Async a) h = absurd h
    shape_no_future u h = refl

    pub no_future : (u : Term) → IsProper defs u → async_of (head defs u) ≡ None
    unfolding head
    no_future u h = shape_no_future (unfolded defs.types u) (unfolded_proper u h)

    each_no_future : (us : List Term) → Each (IsProper defs) us → Each (λ u. async_of (head defs u) ≡ None) us
    each_no_future [] h = tt
    each_no_future (u ∷ us) h = (no_future u h.0, each_no_future us h.1)

    proper_lawful : (u : Term) → IsProper defs u → IsLawfulNode (head defs) (head defs u) × Each (IsProper defs) (types_in (head defs u))
    unfolding head
    proper_lawful u h = shape_lawful (unfolded defs.types u) (unfolded_proper u h)

    met_lawful : (u : Term) → IsMet defs u → IsLawfulNode (head defs) (head defs u) × Each (IsProper defs) (types_in (head defs u))
    unfolding head
    met_lawful (t.Async a) h = (tt, (h, tt))
    met_lawful u h = proper_lawful u h

    -- the parts of a type that is met are proper
    pub parts_proper : (u : Term) → IsMet defs u → Each (IsProper defs) (types_in (head defs u))
    parts_proper u h = (met_lawful u h).1

    pub node_lawful : (u : Term) → IsMet defs u → IsLawfulNode (head defs) (head defs u) × HasNoFuture (head defs) (head defs u)
    node_lawful u h = ((met_lawful u h).0, each_no_future (types_in (head defs u)) (met_lawful u h).1)

    -- ---- bounds

    once_met : (u : Term) → IsMet defs u → (y : Node Term) → head defs u ≡ y → IsMet defs (promoted_once (bound_of y) u)
    once_met u h (node.Variable v b) e = proper_met b (subst (λ y. Each (IsProper defs) (types_in y)) e (parts_proper u h)).0
    once_met u h y e = h

    pub promoted_met : (n : ℕ) (u : Term) → IsMet defs u → IsMet defs (promoted defs n u)
    promoted_met zero u h = h
    promoted_met (suc n) u h = promoted_met n (promoted_once (bound_of (head defs u)) u) (once_met u h (head defs u) refl)

    -- so are those by which members go
    pub members_proper : (u : Term) → IsMet defs u → Each (IsProper defs) (types_in (members_head defs u))
    unfolding members_head
    members_proper u h = parts_proper (promoted defs (suc (length defs.parameters)) u) (promoted_met (suc (length defs.parameters)) u h)
