-- Two closings under which types come to equal ones, part by part.
use Rattle.std.proofs.Common.{◌≡◌, ◌⊎◌, inl, inr, ℕ, zero, suc, List, [], ◌∷◌, map, Bool, true, false, Some, None, refl, sym, subst}
use Rattle.mo_types.specs.declared.node.Node.{Node}
use Rattle.mo_types.specs.declared.node.Node.TheVariants as node
use Rattle.mo_types.specs.declared.node.Field.{Field}
use Rattle.mo_types.specs.Sub.{AtSome, Each, Pairwise, find, Fitting, FieldsBelow, TagsBelow, NodeBelow, Sub}
use Rattle.mo_subtype.specs.Renamed.{on_field, on_node}
use Rattle.subtype_laws.specs.Labels.{OwnLabels}
use Rattle.typed_tree.specs.Instances.{FieldsAlike, FormsAlike}
use Rattle.typed_tree.specs.Wants.{Equal}
use Rattle.closed_types.specs.Closings.{IsNoVariable, AreClosed, Closing}

-- ---- fields of the same labels, at the same places

module _ {B : Type 0} (S : B → B → Type 0) where
  abbrev Match : Field B → Field B → Type 0
  Match k l = (k.label ≡ l.label) × (k.mutable ≡ l.mutable) × S k.part l.part × S l.part k.part

  turn : (ks ls : List (Field B)) → Pairwise Match ks ls → Pairwise Match ls ks
  turn [] [] h = tt
  turn [] (l ∷ ls) h = absurd h
  turn (k ∷ ks) [] h = absurd h
  turn (k ∷ ks) (l ∷ ls) h = ((sym h.0.0, sym h.0.1, h.0.3, h.0.2), turn ks ls h.1)

  fit : (k l : Field B) (m n : Bool) → m ≡ n → S k.part l.part → S l.part k.part → Fitting S k l m n
  fit k l true true e p q = (p, q)
  fit k l false false e p q = p
  fit k l true false e p q = cc
  fit k l false true e p q = cc

  fields_below : (all ks ls : List (Field B)) → Pairwise Match ks ls → Each (λ k. find k.label all ≡ Some k) ks → FieldsBelow S all ls
  fields_below all [] [] h o = tt
  fields_below all [] (l ∷ ls) h o = absurd h
  fields_below all (k ∷ ks) [] h o = absurd h
  fields_below all (k ∷ ks) (l ∷ ls) h o = (
    subst (λ m. AtSome (find m all) (λ k. Fitting S k l k.mutable l.mutable)) h.0.0
        (subst (λ q. AtSome q (λ k. Fitting S k l k.mutable l.mutable)) (sym o.0) (fit k l k.mutable l.mutable h.0.1 h.0.2 h.0.3)),
    fields_below all ks ls h.1 o.1,
  )

  tags_below : (all ks ls : List (Field B)) → Pairwise Match ks ls → Each (λ l. find l.label all ≡ Some l) ls → TagsBelow S ks all
  tags_below all [] [] h o = tt
  tags_below all [] (l ∷ ls) h o = absurd h
  tags_below all (k ∷ ks) [] h o = absurd h
  tags_below all (k ∷ ks) (l ∷ ls) h o = (
    subst (λ m. AtSome (find m all) (λ l. S k.part l.part)) (sym h.0.0) (subst (λ q. AtSome q (λ l. S k.part l.part)) (sym o.0) h.0.2),
    tags_below all ks ls h.1 o.1,
  )

-- ---- one head

some_same : {X : Type 0} (x y : X) → Some x ≡ Some y → x ≡ y
some_same x y e = let z : x ≡ y = cc in z

module _ {A B : Type 0} (R : A → A → Type 0) (S : B → B → Type 0) (f g : A → B) (go : (a b : A) → R a b → S (f b) (g a) × S (g a) (f b)) where
  pairs_low : (ts us : List A) → Pairwise R ts us → Pairwise S (map f us) (map g ts)
  pairs_low [] [] h = tt
  pairs_low [] (u ∷ us) h = absurd h
  pairs_low (t ∷ ts) [] h = absurd h
  pairs_low (t ∷ ts) (u ∷ us) h = ((go t u h.0).0, pairs_low ts us h.1)

  pairs_high : (ts us : List A) → Pairwise R ts us → Pairwise S (map g ts) (map f us)
  pairs_high [] [] h = tt
  pairs_high [] (u ∷ us) h = absurd h
  pairs_high (t ∷ ts) [] h = absurd h
  pairs_high (t ∷ ts) (u ∷ us) h = ((go t u h.0).1, pairs_high ts us h.1)

  matched : (fs gs : List (Field A)) → FieldsAlike R fs gs → Pairwise (Match S) (map (on_field f) gs) (map (on_field g) fs)
  matched [] [] h = tt
  matched [] (y ∷ gs) h = absurd h
  matched (x ∷ fs) [] h = absurd h
  matched (x ∷ fs) (y ∷ gs) h = ((sym h.0.0, sym h.0.1, (go x.part y.part h.0.2).0, (go x.part y.part h.0.2).1), matched fs gs h.1)

  abbrev Both : B → B → Node A → Node A → Type 0
  Both p q x y = NodeBelow S p (on_node f y) (on_node g x) × NodeBelow S q (on_node g x) (on_node f y)

  both : (p q : B) (x y : Node A) → IsNoVariable x → FormsAlike R x y → OwnLabels (on_node g x) → OwnLabels (on_node f y) → Both p q x y
  both p q (node.Number k) (node.Number j) i h o w = (inr (inl (some_same j k h)), inr (inl (sym (some_same j k h))))
  both p q (node.Number k) y i h o w = cc
  both p q node.Bool node.Bool i h o w = (inr refl, inr refl)
  both p q node.Bool y i h o w = cc
  both p q node.Char node.Char i h o w = (inr refl, inr refl)
  both p q node.Char y i h o w = cc
  both p q node.Text node.Text i h o w = (inr refl, inr refl)
  both p q node.Text y i h o w = cc
  both p q node.Blob node.Blob i h o w = (inr refl, inr refl)
  both p q node.Blob y i h o w = cc
  both p q node.Principal node.Principal i h o w = (inr refl, inr refl)
  both p q node.Principal y i h o w = cc
  both p q node.Error node.Error i h o w = (inr refl, inr refl)
  both p q node.Error y i h o w = cc
  both p q node.Null node.Null i h o w = (inr (inl refl), inr (inl refl))
  both p q node.Null y i h o w = cc
  both p q node.Any node.Any i h o w = (inl refl, inl refl)
  both p q node.Any y i h o w = cc
  both p q node.Bottom node.Bottom i h o w = (inr tt, inr tt)
  both p q node.Bottom y i h o w = cc
  both p q (node.Opt a) (node.Opt b) i h o w = (inr (go a b h).0, inr (go a b h).1)
  both p q (node.Opt a) y i h o w = absurd h
  both p q (node.Array a) (node.Array b) i h o w = (inr (go a b h).0, inr (go a b h).1)
  both p q (node.Array a) y i h o w = absurd h
  both p q (node.MutArray a) (node.MutArray b) i h o w = let k = go a b h in (inr (k.0, k.1), inr (k.1, k.0))
  both p q (node.MutArray a) y i h o w = absurd h
  both p q (node.Tuple ts) (node.Tuple us) i h o w = (inr (pairs_low ts us h), inr (pairs_high ts us h))
  both p q (node.Tuple ts) y i h o w = absurd h
  both p q (node.Object fs) (node.Object gs) i h o w = let m = matched fs gs h in (inr (fields_below S _ _ _ m w), inr (fields_below S _ _ _ (turn S _ _ m) o))
  both p q (node.Object fs) y i h o w = absurd h
  both p q (node.Actor fs) (node.Actor gs) i h o w = let m = matched fs gs h in (inr (fields_below S _ _ _ m w), inr (fields_below S _ _ _ (turn S _ _ m) o))
  both p q (node.Actor fs) y i h o w = absurd h
  both p q (node.Variant fs) (node.Variant gs) i h o w = let m = matched fs gs h in (inr (tags_below S _ _ _ m o), inr (tags_below S _ _ _ (turn S _ _ m) w))
  both p q (node.Variant fs) y i h o w = absurd h
  both p q (node.Func s ps rs) (node.Func r qs ss) i h o w = (inr (sym h.0, pairs_high ps qs h.1, pairs_low rs ss h.2), inr (h.0, pairs_low ps qs h.1, pairs_high rs ss h.2))
  both p q (node.Func s ps rs) y i h o w = absurd h
  both p q (node.Async a) (node.Async b) i h o w = (inr (go a b h).0, inr (go a b h).1)
  both p q (node.Async a) y i h o w = absurd h
  both p q (node.Variable v b) y i h o w = absurd (let z : Some v ≡ None = i in cc)

-- types of one form: if one is no type parameter, so is the other
pub form_of : {A : Type 0} (R : A → A → Type 0) (x y : Node A) → IsNoVariable x → FormsAlike R x y → IsNoVariable y
form_of R (node.Number k) (node.Variable v b) i h = cc
form_of R node.Bool (node.Variable v b) i h = cc
form_of R node.Char (node.Variable v b) i h = cc
form_of R node.Text (node.Variable v b) i h = cc
form_of R node.Blob (node.Variable v b) i h = cc
form_of R node.Principal (node.Variable v b) i h = cc
form_of R node.Error (node.Variable v b) i h = cc
form_of R node.Null (node.Variable v b) i h = cc
form_of R node.Any (node.Variable v b) i h = cc
form_of R node.Bottom (node.Variable v b) i h = cc
form_of R (node.Variable w c) (node.Variable v b) i h = absurd (let z : Some w ≡ None = i in cc)
form_of R x (node.Variable v b) i h = absurd h
form_of R x y i h = refl

-- ---- all depths

module _ {A B : Type 0} (head : A → Node A) (other : B → Node B) (closed : AreClosed other) (c d : Closing head other) (R : ℕ → A → A → Type 0)
    (step : (n : ℕ) (t u : A) → R (suc n) t u → Equal other (c.close u) (d.close t) ⊎ (IsNoVariable (head t) × FormsAlike (R n) (head t) (head u))) where
  alike : (n : ℕ) (t u : A) → R n t u → Sub other n (c.close u) (d.close t) × Sub other n (d.close t) (c.close u)
  unfolding Sub
  alike zero t u r = (tt, tt)
  alike (suc n) t u r = by (alike n) (step n t u r) where
    Goal : Node B → Node B → Type 0
    Goal x y = NodeBelow (Sub other n) (d.close t) y x × NodeBelow (Sub other n) (c.close u) x y

    by : ((t u : A) → R n t u → Sub other n (c.close u) (d.close t) × Sub other n (d.close t) (c.close u)) → Equal other (c.close u) (d.close t) ⊎ (IsNoVariable (head t) × FormsAlike (R n) (head t) (head u))
        → Goal (other (d.close t)) (other (c.close u))
    by go (inl e) = (e.0.by (suc n), e.1.by (suc n))
    by go (inr (i, h)) =
        let x : other (d.close t) ≡ on_node d.close (head t) = d.others t i in
        let y : other (c.close u) ≡ on_node c.close (head u) = c.others u (form_of (R n) (head t) (head u) i h) in
        subst (λ z. Goal z (other (c.close u))) (sym x) (subst (Goal (on_node d.close (head t))) (sym y)
        (both (R n) (Sub other n) c.close d.close go (d.close t) (c.close u) (head t) (head u) i h (subst OwnLabels x (closed.own (d.close t))) (subst OwnLabels y (closed.own (c.close u)))))

  pub equal : (t u : A) → ((n : ℕ) → R n t u) → Equal other (c.close u) (d.close t)
  equal t u r = (record { by = λ n. (alike n t u (r n)).0 }, record { by = λ n. (alike n t u (r n)).1 })
