-- What is below stays below, where types within the bounds are put in the place of the type parameters.
use Rattle.std.proofs.Common.{◌≡◌, ◌⊎◌, ◌<◌, ◌∙◌, inl, inr, ℕ, zero, suc, Option, Some, None, refl, sym, ap, arith, subst}
use Rattle.mo_types.specs.declared.node.Node.{Node}
use Rattle.mo_types.specs.declared.node.Node.TheVariants as node
use Rattle.mo_types.specs.Heads.{is_any, variable_of}
use Rattle.mo_types.specs.Sub.{Sub, IsSubtype, NodeBelow}
use Rattle.subtype_laws.specs.Inversion.{IsAbove, IsBelow}
use Rattle.subtype_laws.specs.Renamed.{Corresponds}
use Rattle.subtype_laws.proofs.Greatest.{taken}
use Rattle.subtype_laws.proofs.Inversion.{to_above, to_below}
use Rattle.subtype_laws.proofs.Reflexive as reflexivity
use Rattle.subtype_laws.proofs.Renamed.{node_go}
use Rattle.typed_tree.specs.Wants.{Equal}
use Rattle.closed_types.specs.Closings.{IsNoVariable, AreClosed, BoundsEnd, Closing, IsWithin}
use Rattle.closed_types.proofs.Depthwise.{sub_transitive}
use Rattle.closed_types.proofs.Nodes.{is_variable, corresponds}

pub none_some : {X : Type 0} (o : Option X) (x : X) → o ≡ None → o ≡ Some x → ⊥
none_some o x e f = let z : None ≡ Some x = sym e ∙ f in cc

module _ {A B : Type 0} (head : A → Node A) (other : B → Node B) (closed : AreClosed other) where
  pub self : (b : B) → IsSubtype other b b
  self b = reflexivity.reflexive other b (λ u r. closed.own u)

  pub same_equal : (a b : B) → a ≡ b → Equal other a b
  same_equal a b e = (subst (IsSubtype other a) e (self a), subst (λ x. IsSubtype other x a) e (self a))

  -- what is no type parameter and yet below one is None
  below_variable : (t u b : A) (v : ℕ) → head u ≡ node.Variable v b → IsNoVariable (head t) → IsSubtype head t u → head t ≡ node.Bottom
  below_variable t u b v f e s = by (subst (λ y. IsBelow (IsSubtype head) u y (head t)) f (to_below head t u s)) where
    by : IsBelow (IsSubtype head) u (node.Variable v b) (head t) → head t ≡ node.Bottom
    by (inl q) = q
    by (inr (inl (w, a, q, r))) = absurd (none_some (variable_of (head t)) w e (ap variable_of q))
    by (inr (inr (a, q))) = absurd (none_some (variable_of (head t)) v e (ap variable_of q))

  module _ (ends : BoundsEnd head) (c : Closing head other) (within : IsWithin head other c) where
    abbrev Is : A → B → Type 0
    Is a b = c.close a ≡ b

    heads : (t : A) → IsNoVariable (head t) → Corresponds Is (head t) (other (c.close t))
    heads t e = subst (Corresponds Is (head t)) (sym (c.others t e)) (corresponds c.close (head t))

    -- one rule, where the type below is no type parameter
    rule : (n : ℕ) → ((t u : A) → IsSubtype head t u → Sub other n (c.close t) (c.close u)) → (t u : A) → IsNoVariable (head t) → IsSubtype head t u
        → NodeBelow (Sub other n) (c.close u) (other (c.close t)) (other (c.close u))
    rule n go t u e s = by (is_variable (head u)) where
      by : ((v : ℕ) × (b : A) × (head u ≡ node.Variable v b)) ⊎ IsNoVariable (head u) → NodeBelow (Sub other n) (c.close u) (other (c.close t)) (other (c.close u))
      by (inl (v, b, f)) =
          let i : other (c.close t) ≡ node.Bottom = subst (λ x. Corresponds Is x (other (c.close t))) (below_variable t u b v f e s) (heads t e) in
          subst (λ z. NodeBelow (Sub other n) (c.close u) z (other (c.close u))) (sym i) (inr tt)
      by (inr f) =
          node_go Is (IsSubtype head) (Sub other n) (λ a d p q g h k. subst (λ p. Sub other n p q) g (subst (λ q. Sub other n (c.close a) q) h (go a d k)))
          u (c.close u) (head t) (head u) (other (c.close t)) (other (c.close u)) refl (heads t e) (heads u f) (taken head t u s)

    -- a type parameter is resolved by its bound, whose rank is lower
    up : (n : ℕ) → ((t u : A) → IsSubtype head t u → Sub other n (c.close t) (c.close u)) → (k : ℕ) (t u : A)
        → ((v : ℕ) (b : A) → head t ≡ node.Variable v b → ends.rank v < k) → IsSubtype head t u → Sub other (suc n) (c.close t) (c.close u)
    unfolding Sub
    up n go zero t u l s = by (is_variable (head t)) where
      none : (m : ℕ) → m < 0 → ⊥
      none m h = omega arith

      by : ((v : ℕ) × (b : A) × (head t ≡ node.Variable v b)) ⊎ IsNoVariable (head t) → NodeBelow (Sub other n) (c.close u) (other (c.close t)) (other (c.close u))
      by (inl (v, b, e)) = absurd (none (ends.rank v) (l v b e))
      by (inr e) = rule n go t u e s
    up n go (suc k) t u l s = by (up n go k) (is_variable (head t)) where
      Lower : Type 0
      Lower = (t u : A) → ((v : ℕ) (b : A) → head t ≡ node.Variable v b → ends.rank v < k) → IsSubtype head t u → Sub other (suc n) (c.close t) (c.close u)

      lower : (m j k : ℕ) → m < j → j < suc k → m < k
      lower m j k p q = omega arith

      at_variable : Lower → (v : ℕ) (b : A) → head t ≡ node.Variable v b → IsAbove (IsSubtype head) u (node.Variable v b) (head u) → Sub other (suc n) (c.close t) (c.close u)
      at_variable on v b e (inl f) =
          let i : other (c.close u) ≡ node.Any = subst (λ y. Corresponds Is y (other (c.close u))) f (heads u (ap variable_of f)) in
          inl (ap is_any i)
      at_variable on v b e (inr (inl (d, f))) = subst (Sub other (suc n) (c.close t)) (c.variables t b v e ∙ sym (c.variables u d v f)) ((self (c.close t)).by (suc n))
      at_variable on v b e (inr (inr r)) =
          subst (λ x. Sub other (suc n) x (c.close u)) (sym (c.variables t b v e))
          (sub_transitive other closed.none (suc n) (c.value v) (c.close b) (c.close u) ((within t b v e).by (suc n))
          (on b u (λ w d f. lower (ends.rank w) (ends.rank v) k (ends.end t b d v w e f) (l v b e)) r))

      by : Lower → ((v : ℕ) × (b : A) × (head t ≡ node.Variable v b)) ⊎ IsNoVariable (head t) → NodeBelow (Sub other n) (c.close u) (other (c.close t)) (other (c.close u))
      by on (inl (v, b, e)) = at_variable on v b e (subst (λ x. IsAbove (IsSubtype head) u x (head u)) e (to_above head t u s))
      by on (inr e) = rule n go t u e s

    abbrev height : Option ℕ → ℕ
    height None = 0
    height (Some v) = suc (ends.rank v)

    below : (n : ℕ) (t u : A) → IsSubtype head t u → Sub other n (c.close t) (c.close u)
    unfolding Sub
    below zero t u s = tt
    below (suc n) t u s = up n (below n) (height (variable_of (head t))) t u high s where
      next : (m : ℕ) → m < suc m
      next m = omega arith

      high : (v : ℕ) (b : A) → head t ≡ node.Variable v b → ends.rank v < height (variable_of (head t))
      high v b e = subst (λ o. ends.rank v < height o) (sym (ap variable_of e)) (next (ends.rank v))

    pub stays_below : (t u : A) → IsSubtype head t u → IsSubtype other (c.close t) (c.close u)
    stays_below t u s = record { by = λ n. below n t u s }
