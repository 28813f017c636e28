-- Subtyping is reflexive, where labels are own.
use Rattle.std.proofs.Common.{◌≡◌, inl, inr, ℕ, zero, suc, List, [], ◌∷◌, ◌++◌, Bool, true, false, Some, refl, sym, subst}
use Rattle.std.specs.Cmp.{unsigned_Decides}
use Rattle.mo_types.specs.declared.node.Node.{Node}
use Rattle.mo_types.specs.declared.node.Node.TheVariants as node
use Rattle.mo_types.specs.declared.node.Field.{Field}
use Rattle.mo_types.specs.Sub.{AtSome, IsSubtype, Unless, Each, Pairwise, find, Sub, NodeBelow, FieldsBelow, TagsBelow, Fitting}
use Rattle.mo_types.specs.Values.{types_of}
use Rattle.subtype_laws.specs.Labels.{OwnLabels}
use Rattle.subtype_laws.specs.Reached.{Among, parts, Reached, Itself, Part}

module _ {A : Type 0} where
  pub among_left : (a : A) (xs ys : List A) → Among a xs → Among a (xs ++ ys)
  among_left a [] ys h = absurd h
  among_left a (x ∷ xs) ys (inl e) = inl e
  among_left a (x ∷ xs) ys (inr h) = inr (among_left a xs ys h)

  pub among_right : (a : A) (xs ys : List A) → Among a ys → Among a (xs ++ ys)
  among_right a [] ys h = h
  among_right a (x ∷ xs) ys h = inr (among_right a xs ys h)

module _ {A : Type 0} (R : A → A → Type 0) where
  pairs_self : (xs : List A) → ((a : A) → Among a xs → R a a) → Pairwise R xs xs
  pairs_self [] self = tt
  pairs_self (x ∷ xs) self = (self x (inl refl), pairs_self xs (λ a h. self a (inr h)))

  fitting_self : (f : Field A) (m : Bool) → R f.part f.part → Fitting R f f m m
  fitting_self f true r = (r, r)
  fitting_self f false r = r

  fields_self : (fs gs : List (Field A)) → ((a : A) → Among a (types_of gs) → R a a) → Each (λ f. find f.label fs ≡ Some f) gs → FieldsBelow R fs gs
  fields_self fs [] self h = tt
  fields_self fs (g ∷ gs) self h = (
    subst (λ o. AtSome o (λ f. Fitting R f g f.mutable g.mutable)) (sym h.0) (fitting_self g g.mutable (self g.part (inl refl))),
    fields_self fs gs (λ a m. self a (inr m)) h.1,
  )

  tags_self : (fs gs : List (Field A)) → ((a : A) → Among a (types_of fs) → R a a) → Each (λ f. find f.label gs ≡ Some f) fs → TagsBelow R fs gs
  tags_self [] gs self h = tt
  tags_self (f ∷ fs) gs self h = (subst (λ o. AtSome o (λ g. R f.part g.part)) (sym h.0) (self f.part (inl refl)), tags_self fs gs (λ a m. self a (inr m)) h.1)

  node_self : (u : A) (x : Node A) → ((a : A) → Among a (parts x) → R a a) → OwnLabels x → NodeBelow R u x x
  node_self u (node.Number k) self h = inr (inl refl)
  node_self u node.Bool self h = inr refl
  node_self u node.Char self h = inr refl
  node_self u node.Text self h = inr refl
  node_self u node.Blob self h = inr refl
  node_self u node.Principal self h = inr refl
  node_self u node.Error self h = inr refl
  node_self u node.Null self h = inr (inl refl)
  node_self u node.Any self h = inl refl
  node_self u node.Bottom self h = inr tt
  node_self u (node.Opt a) self h = inr (self a (inl refl))
  node_self u (node.Array a) self h = inr (self a (inl refl))
  node_self u (node.MutArray a) self h = inr (self a (inl refl), self a (inl refl))
  node_self u (node.Tuple ts) self h = inr (pairs_self ts self)
  node_self u (node.Object fs) self h = inr (fields_self fs fs self h)
  node_self u (node.Actor fs) self h = inr (fields_self fs fs self h)
  node_self u (node.Variant fs) self h = inr (tags_self fs fs self h)
  node_self u (node.Func s ps rs) self h = inr (refl, pairs_self ps (λ a m. self a (among_left a ps rs m)), pairs_self rs (λ a m. self a (among_right a ps rs m)))
  node_self u (node.Async a) self h = inr (self a (inl refl))
  node_self u (node.Variable v b) self h = inr (subst (λ e. Unless e (R b u)) (sym ((unsigned_Decides v v).1 refl)) tt)

module _ {A : Type 0} (head : A → Node A) where
  sub_self : (n : ℕ) (t : A) → ((u : A) → Reached head t u → OwnLabels (head u)) → Sub head n t t
  unfolding Sub
  sub_self zero t own = tt
  sub_self (suc n) t own = node_self (Sub head n) t (head t) (λ a m. sub_self n a (λ u r. own u (Part m r))) (own t Itself)

  pub reflexive : (t : A) → ((u : A) → Reached head t u → OwnLabels (head u)) → IsSubtype head t t
  reflexive t own = record { by = λ n. sub_self n t own }
