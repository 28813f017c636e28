-- Types put in the place of parameters: proper types stay proper, since what is shareable has no parameters that are met.
use Rattle.std.proofs.Common.{◌≡◌, ℕ, zero, suc, true, false, ◌∷◌, length, map, Option, Some, None, refl, sym, ap, subst, ◌∙◌}
use Rattle.mo_types.specs.Label.{label_id}
use Rattle.mo_types.specs.Sub.{Each}
use Rattle.mo_types.specs.Values.{is_method_name}
use Rattle.typed_tree.specs.Instances.{field_types}
use Rattle.typed_tree.specs.OperationTypes.{Distinct}
use Rattle.typed_tree.specs.Shareable.{IsSharedFunction, HasShareableForm, PartsShareable, Shares, IsShareable}
use Rattle.typed_tree.specs.Types.{LabelsDiffer}
use Rattle.typing_rules.specs.Definitions.{Definitions, reached, followed, or_bottom, at_reached}
use Rattle.typing_rules.specs.Heads.{head, shape}
use Rattle.typing_rules.specs.Terms.{Term, Terms, Fields, listed, listed_fields, put_in, each_put_in, fields_put_in}
use Rattle.typing_rules.specs.Terms as t
use Rattle.type_definitions.proofs.Following.{follow_put}
use Rattle.proper_laws.specs.Proper.{IsProper, AreProper, FieldsAreProper}

module _ (defs : Definitions) where
  abbrev follow : Term → Option Term
  follow u = followed defs.types (reached defs.types) u

  abbrev SharesTo : ℕ → Term → Type 0
  SharesTo n u = Shares (head defs) n u

  abbrev SharesShape : ℕ → Term → Type 0
  SharesShape n u = HasShareableForm (shape defs u) × PartsShareable (SharesTo n) (shape defs u)

module _ (defs : Definitions) (s : ℕ → Term) where
  abbrev on : Option Term → Option Term
  on o = at_reached s (λ p. follow defs (s p)) o

  -- ---- shared functions

  shared_shape : (o : Option Term) → IsSharedFunction (shape defs (or_bottom defs.types o)) → IsSharedFunction (shape defs (or_bottom defs.types (on o)))
  shared_shape None h = h
  shared_shape (Some (t.Parameter v)) h = absurd h
  shared_shape (Some u) h = h

  shared_put : (u : Term) → IsSharedFunction (head defs u) → IsSharedFunction (head defs (put_in s u))
  unfolding head
  shared_put u h =
      subst (λ o. IsSharedFunction (shape defs (or_bottom defs.types o))) (sym (follow_put defs.types (reached defs.types) s u)) (shared_shape (follow defs u) h)

  -- ---- shareable types

  mutable_put : (fs : Fields) → Each (λ f. f.mutable ≡ false) (listed_fields fs) → Each (λ f. f.mutable ≡ false) (listed_fields (fields_put_in s fs))
  mutable_put t.NoFields h = tt
  mutable_put (t.WithField l m u rest) h = (h.0, mutable_put rest h.1)

  module _ (n : ℕ) (below : (u : Term) → SharesTo defs n u → SharesTo defs n (put_in s u)) where
    each_below : (us : Terms) → Each (SharesTo defs n) (listed us) → Each (SharesTo defs n) (listed (each_put_in s us))
    each_below t.Nil h = tt
    each_below (t.Cons u rest) h = (below u h.0, each_below rest h.1)

    fields_below : (fs : Fields) → Each (SharesTo defs n) (field_types (listed_fields fs)) → Each (SharesTo defs n) (field_types (listed_fields (fields_put_in s fs)))
    fields_below t.NoFields h = tt
    fields_below (t.WithField l m u rest) h = (below u h.0, fields_below rest h.1)

    shares_shape : (o : Option Term) → SharesShape defs n (or_bottom defs.types o) → SharesShape defs n (or_bottom defs.types (on o))
    shares_shape None h = h
    shares_shape (Some (t.Number k)) h = h
    shares_shape (Some (t.Optional a)) h = (tt, (below a h.1.0, tt))
    shares_shape (Some (t.Array a)) h = (tt, (below a h.1.0, tt))
    shares_shape (Some (t.MutableArray a)) h = absurd h.0
    shares_shape (Some (t.Tuple parts)) h = (tt, each_below parts h.1)
    shares_shape (Some (t.Object fields)) h = (mutable_put fields h.0, fields_below fields h.1)
    shares_shape (Some (t.Actor methods)) h = (tt, tt)
    shares_shape (Some (t.Variant tags)) h = (tt, fields_below tags h.1)
    shares_shape (Some (t.Function ps r)) h = (h.0, tt)
    shares_shape (Some (t.Shared how ps r)) h = (h.0, tt)
    shares_shape (Some (t.Async a)) h = absurd h.0
    shares_shape (Some (t.Parameter v)) h = absurd h.0
    shares_shape (Some (t.Use at us)) h = (tt, tt)
    shares_shape (Some u) h = h

  shares_put : (n : ℕ) (u : Term) → SharesTo defs n u → SharesTo defs n (put_in s u)
  unfolding head Shares
  shares_put zero u h = tt
  shares_put (suc n) u h =
      subst (λ o. SharesShape defs n (or_bottom defs.types o)) (sym (follow_put defs.types (reached defs.types) s u)) (shares_shape n (λ v k. shares_put n v k) (follow defs u) h)

  shareable_put : (u : Term) → IsShareable (head defs) u → IsShareable (head defs) (put_in s u)
  shareable_put u h = record { by = λ n. shares_put n u (h.by n) }

  each_shareable_put : (us : Terms) → Each (IsShareable (head defs)) (listed us) → Each (IsShareable (head defs)) (listed (each_put_in s us))
  each_shareable_put t.Nil h = tt
  each_shareable_put (t.Cons u rest) h = (shareable_put u h.0, each_shareable_put rest h.1)

  -- ---- proper types

  labels_put : (fs : Fields) → map (λ f. label_id f.label) (listed_fields fs) ≡ map (λ f. label_id f.label) (listed_fields (fields_put_in s fs))
  labels_put t.NoFields = refl
  labels_put (t.WithField l m u rest) = ap (λ xs. label_id l ∷ xs) (labels_put rest)

  differ_put : (fs : Fields) → LabelsDiffer (listed_fields fs) → LabelsDiffer (listed_fields (fields_put_in s fs))
  differ_put fs h = subst (λ xs. Distinct xs) (labels_put fs) h

  methods_put : (fs : Fields) → Each (λ f. IsSharedFunction (head defs f.part) × (is_method_name f.label ≡ true)) (listed_fields fs)
      → Each (λ f. IsSharedFunction (head defs f.part) × (is_method_name f.label ≡ true)) (listed_fields (fields_put_in s fs))
  methods_put t.NoFields h = tt
  methods_put (t.WithField l m u rest) h = ((shared_put u h.0.0, h.0.1), methods_put rest h.1)

  length_put : (us : Terms) → length (listed us) ≡ length (listed (each_put_in s us))
  length_put t.Nil = refl
  length_put (t.Cons u rest) = ap (λ n. suc n) (length_put rest)

  module _ (within : (v : ℕ) → IsProper defs (s v)) where
    mutual
      pub put_proper : (u : Term) → IsProper defs u → IsProper defs (put_in s u)
      put_proper (t.Optional a) h = put_proper a h
      put_proper (t.Array a) h = put_proper a h
      put_proper (t.MutableArray a) h = put_proper a h
      put_proper (t.Tuple parts) h = (each_put_proper parts h.0, λ e. h.1 (length_put parts ∙ e))
      put_proper (t.Object fields) h = (fields_put_proper fields h.0, differ_put fields h.1)
      put_proper (t.Actor methods) h = (fields_put_proper methods h.0, differ_put methods h.1, mutable_put methods h.2, methods_put methods h.3)
      put_proper (t.Variant tags) h = (fields_put_proper tags h.0, differ_put tags h.1, mutable_put tags h.2)
      put_proper (t.Function ps r) h = (each_put_proper ps h.0, put_proper r h.1)
      put_proper (t.Shared how ps r) h = (each_put_proper ps h.0, put_proper r h.1, h.2, (shareable_put r h.3.0, each_shareable_put ps h.3.1))
      put_proper (t.Async a) h = absurd h
      put_proper (t.Parameter v) h = within v
      put_proper (t.Use at us) h = each_put_proper us h
      put_proper u h = h

      pub each_put_proper : (us : Terms) → AreProper defs us → AreProper defs (each_put_in s us)
      each_put_proper t.Nil h = tt
      each_put_proper (t.Cons u rest) h = (put_proper u h.0, each_put_proper rest h.1)

      pub fields_put_proper : (fs : Fields) → FieldsAreProper defs fs → FieldsAreProper defs (fields_put_in s fs)
      fields_put_proper t.NoFields h = tt
      fields_put_proper (t.WithField l m u rest) h = (put_proper u h.0, fields_put_proper rest h.1)
