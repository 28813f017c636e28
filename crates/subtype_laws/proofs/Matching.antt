-- The fields, methods or tags of equal types match label by label.
use Rattle.std.proofs.Common.{◌≡◌, ◌≢◌, inl, inr, ℕ, Bool, true, false, List, [], ◌∷◌, map, Some, nat_eq, refl, sym, ap, ◌∙◌, subst, if◌then◌else◌}
use Rattle.std.specs.Cmp.Lexicographic.{pointwise}
use Rattle.std.proofs.lemmas.Slice.Eq.{bytes_eq-Decides}
use Rattle.mo_types.specs.declared.node.Node.{Node}
use Rattle.mo_types.specs.declared.node.Node.TheVariants as node
use Rattle.mo_types.specs.declared.node.Field.{Field}
use Rattle.mo_types.specs.Sub.{AtSome, Each, find, Fitting, FieldsBelow, TagsBelow}
use Rattle.mo_types.specs.Label.{label_id}
use Rattle.subtype_laws.specs.Equal.{Distinct, AreTold}
use Rattle.subtype_laws.specs.Labels.{AreOwn, OwnLabels}
use Rattle.subtype_laws.proofs.Monotone.{each_map}
use Rattle.subtype_laws.proofs.Sorting.{ForSome, some_map}

module _ {A : Type 0} where
  own_first : (f : Field A) (fs : List (Field A)) → find f.label (f ∷ fs) ≡ Some f
  own_first f fs = ap (λ b. if b then Some f else find f.label fs) ((bytes_eq-Decides f.label f.label).1 refl)

  -- a field behind one of another label is found as before
  own_later : (f g : Field A) (fs : List (Field A)) → f.label ≢ g.label → find g.label fs ≡ Some g → find g.label (f ∷ fs) ≡ Some g
  own_later f g fs d e = by (pointwise nat_eq f.label g.label) refl where
    by : (b : Bool) → pointwise nat_eq f.label g.label ≡ b → (if b then Some f else find g.label fs) ≡ Some g
    by true h = absurd (d ((bytes_eq-Decides f.label g.label).0 h))
    by false h = e

  own_behind : (f : Field A) (gs fs : List (Field A)) → Each (λ g. f.label ≢ g.label) gs → Each (λ g. find g.label fs ≡ Some g) gs → Each (λ g. find g.label (f ∷ fs) ≡ Some g) gs
  own_behind f [] fs d h = tt
  own_behind f (g ∷ gs) fs d h = (own_later f g fs d.0 h.0, own_behind f gs fs d.1 h.1)

  labels_of : (f : Field A) (gs : List (Field A)) → Each (λ l. f.label ≢ l) (map (λ g. g.label) gs) → Each (λ g. f.label ≢ g.label) gs
  labels_of f [] h = tt
  labels_of f (g ∷ gs) h = (h.0, labels_of f gs h.1)

  ids_of : (f : Field A) (gs : List (Field A)) → Each (λ l. label_id f.label ≢ l) (map (λ g. label_id g.label) gs) → Each (λ g. f.label ≢ g.label) gs
  ids_of f [] h = tt
  ids_of f (g ∷ gs) h = ((λ e. h.0 (ap label_id e)), ids_of f gs h.1)

  pub distinct_own : (fs : List (Field A)) → Distinct (map (λ f. f.label) fs) → AreOwn fs
  distinct_own [] d = tt
  distinct_own (f ∷ fs) d = (own_first f fs, own_behind f fs fs (labels_of f fs d.0) (distinct_own fs d.1))

  pub told_own : (fs : List (Field A)) → Distinct (map (λ f. label_id f.label) fs) → AreOwn fs
  told_own [] d = tt
  told_own (f ∷ fs) d = (own_first f fs, own_behind f fs fs (ids_of f fs d.0) (told_own fs d.1))

  pub labels_own : (x : Node A) → AreTold x → OwnLabels x
  labels_own (node.Object fs) d = told_own fs d
  labels_own (node.Variant fs) d = told_own fs d
  labels_own (node.Actor fs) d = distinct_own fs d
  labels_own x d = tt

  -- one of this label, of which both hold
  some_found : (fs : List (Field A)) (l : List ℕ) (P Q : Field A → Type 0) → Each P fs → AtSome (find l fs) Q → ForSome (λ f. (f.label ≡ l) × P f × Q f) fs
  some_found [] l P Q h s = s
  some_found (f ∷ fs) l P Q h s = by (pointwise nat_eq f.label l) refl s (some_found fs l P Q h.1) where
    by : (b : Bool) → pointwise nat_eq f.label l ≡ b → AtSome (if b then Some f else find l fs) Q → (AtSome (find l fs) Q → ForSome (λ f. (f.label ≡ l) × P f × Q f) fs) → ForSome (λ f. (f.label ≡ l) × P f × Q f) (f ∷ fs)
    by true e s k = inl ((bytes_eq-Decides f.label l).0 e, h.0, s)
    by false e s k = inr (k s)

  -- a field of the second list finds one in the first, which finds it again
  matched : (U V : Field A → Field A → Type 0) (fs gs hs : List (Field A)) → Each (λ g. find g.label gs ≡ Some g) hs → Each (λ g. AtSome (find g.label fs) (λ f. U f g)) hs → Each (λ f. AtSome (find f.label gs) (λ g. V f g)) fs → Each (λ g. ForSome (λ f. (f.label ≡ g.label) × U f g × V f g) fs) hs
  matched U V fs gs [] own p q = tt
  matched U V fs gs (h ∷ hs) own p q = (
    some_map (λ f. (f.label ≡ h.label) × AtSome (find f.label gs) (λ g. V f g) × U f h) (λ f. (f.label ≡ h.label) × U f h × V f h)
        (λ f s. (s.0, s.2, subst (λ o. AtSome o (λ g. V f g)) (ap (λ l. find l gs) s.0 ∙ own.0) s.1))
        fs (some_found fs h.label (λ f. AtSome (find f.label gs) (λ g. V f g)) (λ f. U f h) q p.0),
    matched U V fs gs hs own.1 p.1 q,
  )

  module _ (R : A → A → Type 0) where
    abbrev pub Match : Field A → Field A → Type 0
    Match f g = (f.label ≡ g.label) × R f.part g.part × R g.part f.part

    fitting_part : (f g : Field A) (m n : Bool) → Fitting R f g m n → R f.part g.part
    fitting_part f g true true h = h.0
    fitting_part f g false false h = h
    fitting_part f g true false h = absurd h
    fitting_part f g false true h = absurd h

    match_turned : (f g : Field A) → Match g f → Match f g
    match_turned f g m = (sym m.0, m.2, m.1)

    fields_right : (fs gs : List (Field A)) → AreOwn gs → FieldsBelow R fs gs → FieldsBelow R gs fs → Each (λ g. ForSome (λ f. Match f g) fs) gs
    fields_right fs gs own p q =
        each_map _ _ (λ g. some_map (λ f. (f.label ≡ g.label) × Fitting R f g f.mutable g.mutable × Fitting R g f g.mutable f.mutable) (λ f. Match f g)
        (λ f s. (s.0, fitting_part f g f.mutable g.mutable s.1, fitting_part g f g.mutable f.mutable s.2)) fs)
        gs (matched (λ f g. Fitting R f g f.mutable g.mutable) (λ f g. Fitting R g f g.mutable f.mutable) fs gs gs own p q)

    tags_right : (fs gs : List (Field A)) → AreOwn gs → TagsBelow R fs gs → TagsBelow R gs fs → Each (λ g. ForSome (λ f. Match f g) fs) gs
    tags_right fs gs own p q =
        each_map _ _ (λ g. some_map (λ f. (f.label ≡ g.label) × R g.part f.part × R f.part g.part) (λ f. Match f g) (λ f s. (s.0, s.2, s.1)) fs)
        gs (matched (λ f g. R g.part f.part) (λ f g. R f.part g.part) fs gs gs own q p)

    turned : (fs gs : List (Field A)) → Each (λ f. ForSome (λ g. Match g f) gs) fs → Each (λ f. ForSome (λ g. Match f g) gs) fs
    turned fs gs h = each_map _ _ (λ f. some_map (λ g. Match g f) (λ g. Match f g) (λ g. match_turned f g) gs) fs h

    -- each of either list matches one of the other
    abbrev pub Matched : List (Field A) → List (Field A) → Type 0
    Matched fs gs = Each (λ f. ForSome (λ g. Match f g) gs) fs × Each (λ g. ForSome (λ f. Match f g) fs) gs

    pub fields_match : (fs gs : List (Field A)) → AreOwn fs → AreOwn gs → FieldsBelow R fs gs → FieldsBelow R gs fs → Matched fs gs
    fields_match fs gs o own p q = (turned fs gs (fields_right gs fs o q p), fields_right fs gs own p q)

    pub tags_match : (fs gs : List (Field A)) → AreOwn fs → AreOwn gs → TagsBelow R fs gs → TagsBelow R gs fs → Matched fs gs
    tags_match fs gs o own p q = (turned fs gs (tags_right gs fs o q p), tags_right fs gs own p q)
