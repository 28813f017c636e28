-- Types that have values: those above one have some, and a type of which there is a value has some.
use Rattle.std.proofs.Common.{◌≡◌, inl, inr, ℕ, List, [], ◌∷◌, map, Bool, true, false, Option, Some, None, refl, sym, ap, subst, slice_get}
use Rattle.std.specs.Prelude.{nat_eq, zero, suc, if◌then◌else◌}
use Rattle.std.specs.Cmp.Lexicographic.{pointwise}
use Rattle.mo_types.specs.declared.node.Field.{Field}
use Rattle.mo_types.specs.declared.node.Node.{Node}
use Rattle.mo_types.specs.declared.node.Node.TheVariants as node
use Rattle.mo_types.specs.declared.node.Sort.TheVariants as sort
use Rattle.mo_types.specs.declared.node.TypeId.{TypeId}
use Rattle.mo_types.specs.Sub.{AtSome, IsSomething, IsSubtype, Each, Pairwise, Fitting, FieldsBelow, find}
use Rattle.mo_types.specs.Values.{types_of}
use Rattle.mo_values.specs.Messages.{count}
use Rattle.mo_values.specs.Shapes.{Bytes, Head, Leaf, Tuple, Array, Object, Tag, Error, Cell, Shape, Shapes, Made, Function, NoShape, AShape}
use Rattle.subtype_laws.proofs.Inversion.{to_above}
use Rattle.subtype_laws.specs.Bounds.{SameBound}
use Rattle.subtype_laws.specs.Inversion.{IsAbove}
use Rattle.subtype_laws.specs.Labels.{OwnLabels}
use Rattle.typed_tree.specs.Has.{wants, field_want, by_mutability, tag_want, Has, HasEach}
use Rattle.typed_tree.specs.Instances.{IsAmong}
use Rattle.typed_tree.specs.Wants.{Want, Anything, Of, CellOf, FutureOf, KeptOf, Generic, Equal}
use Rattle.pattern_coverage.specs.Inhabited.{always, HasValues, ByForm, ByParts, ByFields, ByTag, ByBound, EachHasValues, NoType, AType, everything}
use Rattle.pattern_coverage.proofs.Seen.{no, neither, HasAt, at_head, tuple_leaf, object_leaf, tag_leaf, bottom_at}

found_next : (P : Field TypeId → Type 0) (l : Bytes) (f g : Field TypeId) (gs : List (Field TypeId)) (b : Bool) → (if b then Some g else find l gs) ≡ Some f → P g → (find l gs ≡ Some f → P f) → P f
found_next P l f g gs true e h k = let i : g ≡ f = cc in subst P i h
found_next P l f g gs false e h k = k e

-- what is said of each is said of the one that is found
pub found_each : (P : Field TypeId → Type 0) (l : Bytes) (f : Field TypeId) (fs : List (Field TypeId)) → find l fs ≡ Some f → Each P fs → P f
found_each P l f [] e h = cc
found_each P l f (g ∷ gs) e h = found_next P l f g gs (pointwise nat_eq g.label l) e h.0 (λ i. found_each P l f gs i h.1)

pub at_some : {V : Type 0} (P : V → Type 0) (o : Option V) → AtSome o P → (v : V) × (o ≡ Some v) × P v
at_some P None h = absurd h
at_some P (Some v) h = (v, refl, h)

module _ (head : TypeId → Node TypeId) (bounds : SameBound head) where
  form_up : (u : TypeId) (x y : Node TypeId) → always x ≡ true → IsAbove (IsSubtype head) u x y → always y ≡ true
  form_up u x y a (inl e) = ap always e
  form_up u (node.Number k) y a (inr f) = ap always f.1
  form_up u node.Bool y a (inr f) = ap always f
  form_up u node.Char y a (inr f) = ap always f
  form_up u node.Text y a (inr f) = ap always f
  form_up u node.Blob y a (inr f) = ap always f
  form_up u node.Principal y a (inr f) = ap always f
  form_up u node.Error y a (inr f) = ap always f
  form_up u node.Null y a (inr (inl f)) = ap always f
  form_up u node.Null y a (inr (inr f)) = ap always f.1
  form_up u node.Any y a (inr f) = absurd f
  form_up u (node.Opt b) y a (inr f) = ap always f.1
  form_up u (node.Array b) y a (inr f) = ap always f.1
  form_up u (node.MutArray b) y a (inr f) = ap always f.1
  form_up u (node.Actor fs) y a (inr f) = ap always f.1
  form_up u (node.Func s ps rs) y a (inr f) = ap always f.2
  form_up u (node.Async b) y a (inr f) = ap always f.1
  form_up u x y a (inr f) = absurd (no a)

  -- types above have values
  abbrev Up : TypeId → Type 0
  Up t = (u : TypeId) → IsSubtype head t u → HasValues head u

  pairs_up : (ts us : List TypeId) → Each Up ts → Pairwise (IsSubtype head) ts us → EachHasValues head us
  pairs_up [] [] h p = NoType
  pairs_up [] (u ∷ us) h p = absurd p
  pairs_up (t ∷ ts) [] h p = absurd p
  pairs_up (t ∷ ts) (u ∷ us) h p = AType u us (h.0 u p.0) (pairs_up ts us h.1 p.1)

  fitting_up : (f g : Field TypeId) (m n : Bool) → Up f.part → Fitting (IsSubtype head) f g m n → HasValues head g.part
  fitting_up f g true true h p = h g.part p.0
  fitting_up f g false false h p = h g.part p
  fitting_up f g true false h p = absurd p
  fitting_up f g false true h p = absurd p

  of_fields : (P : TypeId → Type 0) (fs : List (Field TypeId)) → Each P (types_of fs) → Each (λ f. P f.part) fs
  of_fields P [] h = tt
  of_fields P (f ∷ fs) h = (h.0, of_fields P fs h.1)

  fields_up : (fs gs : List (Field TypeId)) → Each Up (types_of fs) → FieldsBelow (IsSubtype head) fs gs → EachHasValues head (types_of gs)
  fields_up fs [] h p = NoType
  fields_up fs (g ∷ gs) h p =
      let f = at_some (λ f. Fitting (IsSubtype head) f g f.mutable g.mutable) (find g.label fs) p.0 in
      AType g.part (types_of gs) (fitting_up f.0 g f.0.mutable g.mutable (found_each (λ f. Up f.part) g.label f.0 fs f.1 (of_fields Up fs h)) f.2) (fields_up fs gs h p.1)

  above_of : (x : Node TypeId) (t u : TypeId) → head t ≡ x → IsSubtype head t u → IsAbove (IsSubtype head) u x (head u)
  above_of x t u e s = subst (λ y. IsAbove (IsSubtype head) u y (head u)) e (to_above head t u s)

  any_has : (u : TypeId) → head u ≡ node.Any → HasValues head u
  any_has u e = ByForm u (ap always e)

  parts_up : (ts : List TypeId) (u : TypeId) → Each Up ts → IsAbove (IsSubtype head) u (node.Tuple ts) (head u) → HasValues head u
  parts_up ts u h (inl e) = any_has u e
  parts_up ts u h (inr f) = ByParts u f.0 f.1 (pairs_up ts f.0 h f.2)

  object_up : (fs : List (Field TypeId)) (u : TypeId) → Each Up (types_of fs) → IsAbove (IsSubtype head) u (node.Object fs) (head u) → HasValues head u
  object_up fs u h (inl e) = any_has u e
  object_up fs u h (inr f) = ByFields u f.0 f.1 (fields_up fs f.0 h f.2)

  tag_up : (fs : List (Field TypeId)) (l : Bytes) (f : Field TypeId) (u : TypeId) → find l fs ≡ Some f → Up f.part → IsAbove (IsSubtype head) u (node.Variant fs) (head u) → HasValues head u
  tag_up fs l f u e h (inl i) = any_has u i
  tag_up fs l f u e h (inr i) =
      let g = at_some (λ g. IsSubtype head f.part g.part) (find f.label i.0) (found_each (λ f. AtSome (find f.label i.0) (λ g. IsSubtype head f.part g.part)) l f fs e i.2) in
      ByTag u i.0 f.label g.0 i.1 g.1 (h g.0.part g.2)

  bound_up : (t b : TypeId) (v : ℕ) (u : TypeId) → head t ≡ node.Variable v b → HasValues head b → Up b → IsAbove (IsSubtype head) u (node.Variable v b) (head u) → HasValues head u
  bound_up t b v u e h k (inl i) = any_has u i
  bound_up t b v u e h k (inr (inl i)) = ByBound u i.0 v i.1 (subst (HasValues head) (bounds t u b i.0 v e i.1) h)
  bound_up t b v u e h k (inr (inr r)) = k u r

  mutual
    pub up : (t : TypeId) → HasValues head t → Up t
    up t (ByForm _ e) = λ u s. ByForm u (form_up u (head t) (head u) e (to_above head t u s))
    up t (ByParts _ ts e hs) = λ u s. parts_up ts u (each_up ts hs) (above_of (node.Tuple ts) t u e s)
    up t (ByFields _ fs e hs) = λ u s. object_up fs u (each_up (types_of fs) hs) (above_of (node.Object fs) t u e s)
    up t (ByTag _ fs l f e i h) = λ u s. tag_up fs l f u i (up f.part h) (above_of (node.Variant fs) t u e s)
    up t (ByBound _ b v e h) = λ u s. bound_up t b v u e h (up b h) (above_of (node.Variable v b) t u e s)

    each_up : (ts : List TypeId) → EachHasValues head ts → Each Up ts
    each_up [] NoType = tt
    each_up (t ∷ ts) (AType _ _ h hs) = (up t h, each_up ts hs)

module _ (head : TypeId → Node TypeId) where
  abbrev WantHas : Want TypeId → Type 0
  WantHas (Of t) = HasValues head t
  WantHas (CellOf t) = HasValues head t
  WantHas w = Unit {0}

  kind_at : (at : ℕ) (ks : List TypeId) (P : TypeId → Type 0) → Each (HasValues head) ks → AtSome (slice_get ks at) P → (u : TypeId) × HasValues head u × P u
  kind_at at [] P h p = absurd p
  kind_at zero (k ∷ ks) P h p = (k, h.0, p)
  kind_at (suc n) (k ∷ ks) P h p = kind_at n ks P h.1 p

  types_have : (ts : List TypeId) → Each WantHas (map (λ t. Of t) ts) → EachHasValues head ts
  types_have [] h = NoType
  types_have (t ∷ ts) h = AType t ts h.0 (types_have ts h.1)

  mutable_has : (m : Bool) (t : TypeId) → WantHas (by_mutability m t) → HasValues head t
  mutable_has true t h = h
  mutable_has false t h = h

  among_has : (fs : List (Field TypeId)) (l : Bytes) (ls : List Bytes) → IsAmong l ls → Each WantHas (map (λ l. field_want (find l fs)) ls) → WantHas (field_want (find l fs))
  among_has fs l [] i h = absurd i
  among_has fs l (m ∷ ms) (inl e) h = subst (λ m. WantHas (field_want (find m fs))) (sym e) h.0
  among_has fs l (m ∷ ms) (inr i) h = among_has fs l ms i h.1

  fields_have : (all : List (Field TypeId)) (ls : List Bytes) → Each WantHas (map (λ l. field_want (find l all)) ls) → (fs : List (Field TypeId)) → Each (λ f. find f.label all ≡ Some f) fs
      → Each (λ f. IsAmong f.label ls) fs → EachHasValues head (types_of fs)
  fields_have all ls h [] o i = NoType
  fields_have all ls h (f ∷ fs) o i =
      AType f.part (types_of fs) (mutable_has f.mutable f.part (subst (λ o. WantHas (field_want o)) o.0 (among_has all f.label ls i.0 h))) (fields_have all ls h fs o.1 i.1)

  tag_has : (t : TypeId) (fs : List (Field TypeId)) (l : Bytes) (o : Option (Field TypeId)) → head t ≡ node.Variant fs → find l fs ≡ o → Each WantHas (tag_want o ∷ []) → IsSomething o → HasValues head t
  tag_has t fs l None e i h s = absurd s
  tag_has t fs l (Some g) e i h s = ByTag t fs l g e i h.0

module _ {F : Type 0} (head : TypeId → Node TypeId) (bounds : SameBound head) (own : (t : TypeId) → OwnLabels (head t)) (kinds : List TypeId) (contents : Each (HasValues head) kinds) where
  abbrev Here : Want TypeId → Shape F → Type 0
  Here w v = Has head (everything head) kinds w v

  abbrev AllHere : List (Want TypeId) → Shapes F → Type 0
  AllHere ws vs = HasEach head (everything head) kinds ws vs

  root_has : (x : Node TypeId) (t : TypeId) → head t ≡ x → (h : Head) (inside : Shapes F) → HasAt head (everything head) kinds x t (Made h inside) → Each (WantHas head) (wants h x (count inside)) → HasValues head t
  root_has (node.Tuple ts) t e Tuple inside a i = ByParts t ts e (types_have head ts i)
  root_has (node.Tuple ts) t e (Leaf p) inside a i = absurd (tuple_leaf head (everything head) kinds t ts p inside a)
  root_has (node.Tuple ts) t e Array inside a i = neither a.0
  root_has (node.Tuple ts) t e (Error c m) inside a i = absurd (no a.0.0)
  root_has (node.Tuple ts) t e h inside a i = absurd a.0
  root_has (node.Object fs) t e (Object ls) inside a i = ByFields t fs e (fields_have head fs ls i fs (subst OwnLabels e (own t)) a.0)
  root_has (node.Object fs) t e (Leaf p) inside a i = absurd (object_leaf head (everything head) kinds t fs p inside a)
  root_has (node.Object fs) t e Array inside a i = neither a.0
  root_has (node.Object fs) t e (Error c m) inside a i = absurd (no a.0.0)
  root_has (node.Object fs) t e h inside a i = absurd a.0
  root_has (node.Variant fs) t e (Tag l) inside a i = tag_has head t fs l (find l fs) e refl i a.0
  root_has (node.Variant fs) t e (Leaf p) inside a i = absurd (tag_leaf head (everything head) kinds t fs p inside a)
  root_has (node.Variant fs) t e Array inside a i = neither a.0
  root_has (node.Variant fs) t e (Error c m) inside a i = absurd (no a.0.0)
  root_has (node.Variant fs) t e h inside a i = absurd a.0
  root_has node.Bottom t e h inside a i = absurd (bottom_at head (everything head) kinds t (Made h inside) a)
  root_has (node.Variable v b) t e h inside a i = ByBound t b v e (subst (HasValues head) (bounds a.0.0 t a.0.1 b v a.0.2 e) a.0.3)
  root_has x t e h inside a i = ByForm t (ap always e)

  function_has : (x : Node TypeId) (t : TypeId) → head t ≡ x → (f : F) → HasAt head (everything head) kinds x t (Function f) → HasValues head t
  function_has node.Any t e f a = ByForm t (ap always e)
  function_has (node.Variable v b) t e f a = ByBound t b v e (subst (HasValues head) (bounds a.0 t a.1 b v a.2 e) a.3)
  function_has (node.Func sort.Local ps rs) t e f a = ByForm t (ap always e)
  function_has x t e f a = absurd a

  mutual
    pub has_some : (v : Shape F) (w : Want TypeId) → Here w v → WantHas head w
    has_some (Made h inside) (Of t) a =
        root_has (head t) t refl h inside (at_head head (everything head) kinds (head t) t (Made h inside) refl a) (all_have inside (wants h (head t) (count inside)) a.1)
    has_some (Function f) (Of t) a = function_has (head t) t refl f (at_head head (everything head) kinds (head t) t (Function f) refl a)
    has_some (Made (Cell at) NoShape) (CellOf t) a = let k = kind_at head at kinds (λ u. Equal head t u) contents a in up head bounds k.0 k.1 t k.2.1
    has_some v (CellOf t) a = absurd a
    has_some v Anything a = tt
    has_some v (FutureOf t) a = tt
    has_some v (KeptOf t) a = tt
    has_some v (Generic vs t) a = tt

    all_have : (vs : Shapes F) (ws : List (Want TypeId)) → AllHere ws vs → Each (WantHas head) ws
    all_have NoShape [] a = tt
    all_have NoShape (w ∷ ws) a = absurd a
    all_have (AShape v vs) [] a = absurd a
    all_have (AShape v vs) (w ∷ ws) a = (has_some v w a.0, all_have vs ws a.1)

  -- a type of which there is a value has some
  pub type_has : (t : TypeId) (v : Shape F) → Here (Of t) v → HasValues head t
  type_has t v a = has_some v (Of t) a
