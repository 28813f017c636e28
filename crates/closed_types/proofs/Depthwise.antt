-- Subtyping to a depth is transitive where there are no type parameters: types with a depth, of which nothing is asked at the depth 0, are
-- subtypes at all depths where they are so to their own.
use Rattle.std.proofs.Common.{◌≡◌, inl, inr, ℕ, zero, suc, None, Some, refl, sym, subst}
use Rattle.mo_types.specs.declared.node.Node.{Node}
use Rattle.mo_types.specs.declared.node.Node.TheVariants as node
use Rattle.mo_types.specs.Heads.{variable_of}
use Rattle.mo_types.specs.Sub.{Sub, IsSubtype, NodeBelow}
use Rattle.mo_subtype.specs.Renamed.{on_node}
use Rattle.subtype_laws.specs.Bounds.{OneBound}
use Rattle.subtype_laws.proofs.Renamed.{Turned, turned, node_go}
use Rattle.subtype_laws.proofs.Transitive as transitivity
use Rattle.closed_types.specs.Closings.{IsNoVariable}
use Rattle.closed_types.proofs.Nodes.{corresponds, no_variable_on}

-- a type, and how deep it is looked into
pub record Cut (B : Type 0) : Type 0 where
  pub depth : ℕ
  pub base : B

abbrev at : {B : Type 0} → ℕ → B → Cut B
at n b = record { depth = n; base = b }

abbrev cut_head : {B : Type 0} → (B → Node B) → ℕ → B → Node (Cut B)
cut_head head zero b = node.Null
cut_head head (suc n) b = on_node (at n) (head b)

abbrev cut : {B : Type 0} → (B → Node B) → Cut B → Node (Cut B)
cut head c = cut_head head c.depth c.base

module _ {B : Type 0} (head : B → Node B) (none : (b : B) → IsNoVariable (head b)) where
  no_variables : (n : ℕ) (b : B) → IsNoVariable (cut_head head n b)
  no_variables zero b = refl
  no_variables (suc n) b = no_variable_on (at n) (head b) (none b)

  one : OneBound (cut head)
  one t u b c n e f = absurd (no (cut head t) (no_variables t.depth t.base) e) where
    no : (x : Node (Cut B)) → IsNoVariable x → x ≡ node.Variable n b → ⊥
    no x i e = let z : None ≡ variable_of (node.Variable n b) = subst (λ x. None ≡ variable_of x) e (subst (λ o. o ≡ variable_of x) i refl) in cc

  -- what is not below by its bound goes by its head alone
  change : {A : Type 0} (R : A → A → Type 0) (u v : A) (x y : Node A) → IsNoVariable x → NodeBelow R u x y → NodeBelow R v x y
  change R u v (node.Variable w b) y i h = absurd (let z : Some w ≡ None = i in cc)
  change R u v x y i h = h

  abbrev Is : ℕ → B → Cut B → Type 0
  Is n b c = at n b ≡ c

  here : (n k : ℕ) (t u : B) → Sub head n t u → Sub (cut head) k (at n t) (at n u)
  unfolding Sub
  here n zero t u h = tt
  here zero (suc k) t u h = inr (inl refl)
  here (suc n) (suc k) t u h =
      change (Sub (cut head) k) (at n u) (at (suc n) u) (on_node (at n) (head t)) (on_node (at n) (head u)) (no_variable_on (at n) (head t) (none t)) (node_go (Is n) (Sub head n) (Sub (cut head) k) (λ a c b d p q s. subst (λ b. Sub (cut head) k b d) p (subst (λ d. Sub (cut head) k (at n a) d) q (here n k a c s)))
      u (at n u) (head t) (head u) (on_node (at n) (head t)) (on_node (at n) (head u)) refl (corresponds (at n) (head t)) (corresponds (at n) (head u)) h)

  back : (n : ℕ) (t u : B) → Sub (cut head) n (at n t) (at n u) → Sub head n t u
  unfolding Sub
  back zero t u h = tt
  back (suc n) t u h =
      node_go (Turned (Is n)) (Sub (cut head) n) (Sub head n) (λ a c b d p q s. back n b d (subst (λ a. Sub (cut head) n a (at n d)) (sym p) (subst (λ c. Sub (cut head) n a c) (sym q) s)))
      (at n u) u (on_node (at n) (head t)) (on_node (at n) (head u)) (head t) (head u) refl
      (turned (Is n) (head t) (on_node (at n) (head t)) (corresponds (at n) (head t))) (turned (Is n) (head u) (on_node (at n) (head u)) (corresponds (at n) (head u)))
      (change (Sub (cut head) n) (at (suc n) u) (at n u) (on_node (at n) (head t)) (on_node (at n) (head u)) (no_variable_on (at n) (head t) (none t)) h)

  pub sub_transitive : (n : ℕ) (t u v : B) → Sub head n t u → Sub head n u v → Sub head n t v
  sub_transitive n t u v p q =
      let all : IsSubtype (cut head) (at n t) (at n v) =
      transitivity.transitive (cut head) one (at n t) (at n u) (at n v) (record { by = λ k. here n k t u p }) (record { by = λ k. here n k u v q }) in
      back n t v (all.by n)
