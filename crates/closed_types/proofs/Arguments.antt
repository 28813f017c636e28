-- Arguments of type parameters that are within the bounds.
use Rattle.std.proofs.Common.{◌≡◌, ◌⊎◌, ◌∙◌, inl, inr, ℕ, suc, List, [], ◌∷◌, ◌++◌, length, Bool, true, false, cond, Some, refl, sym, ap, subst, nat_eq}
use Rattle.std.specs.Cmp.{unsigned_Decides}
use Rattle.mo_types.specs.declared.node.Node.{Node}
use Rattle.mo_types.specs.declared.node.Node.TheVariants as node
use Rattle.mo_types.specs.Heads.{variable_of}
use Rattle.mo_types.specs.Sub.{IsSubtype}
use Rattle.subtype_laws.specs.Bounds.{OneBound}
use Rattle.subtype_laws.proofs.Inversion.{from_above}
use Rattle.subtype_laws.specs.Inversion.{IsAbove}
use Rattle.subtype_laws.proofs.Transitive as transitivity
use Rattle.typed_tree.specs.Instances.{IsAmong, argument_of, AreWithinBounds}
use Rattle.closed_types.specs.Closings.{AreClosed, BoundsEnd, Closing, IsWithin, Puts, put_value, BoundsMention, OthersNone, AreKept}
use Rattle.closed_types.proofs.Instances.{agreeing, put_in}
use Rattle.closed_types.proofs.Substitution.{none_some, stays_below}

pub among_append : {V : Type 0} (x : V) (xs ys : List V) → IsAmong x (xs ++ ys) → IsAmong x xs ⊎ IsAmong x ys
among_append x [] ys h = inr h
among_append x (z ∷ xs) ys (inl e) = inl (inl e)
among_append x (z ∷ xs) ys (inr h) = by (among_append x xs ys h) where
  by : IsAmong x xs ⊎ IsAmong x ys → IsAmong x (z ∷ xs) ⊎ IsAmong x ys
  by (inl k) = inl (inr k)
  by (inr k) = inr k

pub among_right : {V : Type 0} (x : V) (xs ys : List V) → IsAmong x ys → IsAmong x (xs ++ ys)
among_right x [] ys h = h
among_right x (z ∷ xs) ys h = inr (among_right x xs ys h)

-- where there are as many types as type parameters, each of these has one
pub argument_found : {A : Type 0} (vs : List ℕ) (ts : List A) (v : ℕ) → length ts ≡ length vs → IsAmong v vs → (a : A) × (argument_of vs ts v ≡ Some a)
argument_found [] ts v l m = absurd m
argument_found (w ∷ vs) [] v l m = absurd (let z : 0 ≡ suc (length vs) = l in cc)
argument_found {A} (w ∷ vs) (t ∷ ts) v l m = by (argument_found vs ts v (let z : length ts ≡ length vs = cc in z)) (nat_eq v w) refl m where
  by : (IsAmong v vs → (a : A) × (argument_of vs ts v ≡ Some a)) → (b : Bool) → nat_eq v w ≡ b → (v ≡ w) ⊎ IsAmong v vs → (a : A) × (cond b (Some t) (argument_of vs ts v) ≡ Some a)
  by on true e k = (t, refl)
  by on false e (inl k) = absurd (let z : false ≡ true = sym e ∙ (unsigned_Decides v w).1 k in cc)
  by on false e (inr k) = on k

module _ {B : Type 0} (other : B → Node B) (closed : AreClosed other) where
  one : OneBound other
  one t u b c n e f = absurd (none_some (variable_of (other t)) n (closed.none t) (ap variable_of e))

  pub transitive : (t u v : B) → IsSubtype other t u → IsSubtype other u v → IsSubtype other t v
  transitive t u v p q = transitivity.transitive other one t u v p q

  pub none_below : (t u : B) → other t ≡ node.Bottom → IsSubtype other t u
  none_below t u e = from_above other t u (subst (λ x. IsAbove (IsSubtype other) u x (other u)) (sym e) (inr tt))

module _ {A B : Type 0} (head : A → Node A) (other : B → Node B) (closed : AreClosed other) (ends : BoundsEnd head) (c d : Closing head other) (within : IsWithin head other c) (vs : List ℕ) (ts : List A) (outer : List ℕ)
    (puts : Puts head other c vs ts (vs ++ outer) d) (kept : AreKept head other vs ts outer) (inner_bounds : BoundsMention head other vs (vs ++ outer)) (outer_bounds : BoundsMention head other outer outer)
    (rest : OthersNone head other d (vs ++ outer)) (many : length ts ≡ length vs) (bounds : AreWithinBounds head vs ts) where
  pub stays_within : IsWithin head other d
  stays_within t b v e = by (rest v) where
    at_argument : IsAmong v (vs ++ outer) → IsAmong v vs → IsSubtype other (d.value v) (d.close b)
    at_argument m k =
        let a = argument_found vs ts v many k in
        let i = bounds.by t b v a.0 e a.1 in
        let value : d.value v ≡ c.close a.0 = puts v m ∙ ap (put_value head other c v) a.1 in
        subst (λ x. IsSubtype other x (d.close b)) (sym value)
        (transitive other closed (c.close a.0) (c.close i.0) (d.close b) (stays_below head other closed ends c within a.0 i.0 i.2)
        (put_in head other closed ends c d within vs ts (vs ++ outer) puts b i.0 (inner_bounds t b v e k) i.1).0)

    at_outer : IsAmong v outer → IsSubtype other (d.value v) (d.close b)
    at_outer k =
        let same : (w : ℕ) → IsAmong w outer → d.value w ≡ c.value w = λ w q. puts w (among_right w vs outer q) ∙ ap (put_value head other c w) (kept w q) in
        subst (λ x. IsSubtype other x (d.close b)) (sym (same v k))
        (transitive other closed (c.value v) (c.close b) (d.close b) (within t b v e) (agreeing head other closed c d outer same b (outer_bounds t b v e k)).0)

    at : IsAmong v (vs ++ outer) → IsAmong v vs ⊎ IsAmong v outer → IsSubtype other (d.value v) (d.close b)
    at m (inl k) = at_argument m k
    at m (inr k) = at_outer k

    by : IsAmong v (vs ++ outer) ⊎ (other (d.value v) ≡ node.Bottom) → IsSubtype other (d.value v) (d.close b)
    by (inl m) = at m (among_append v vs outer m)
    by (inr z) = none_below other closed (d.value v) (d.close b) z
