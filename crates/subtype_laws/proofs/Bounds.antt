-- Where subtyping is an order, type parameters of one number have equal bounds.
use Rattle.std.proofs.Common.{◌≡◌, ◌≢◌, inl, inr, ℕ, Some, sym, ap, subst}
use Rattle.mo_types.specs.declared.node.Node.{Node}
use Rattle.mo_types.specs.declared.node.Node.TheVariants as node
use Rattle.mo_types.specs.Heads.{variable_of}
use Rattle.mo_types.specs.Sub.{IsSubtype}
use Rattle.subtype_laws.specs.Bounds.{OneBound, SameBound}
use Rattle.subtype_laws.specs.Labels.{OwnLabels}
use Rattle.subtype_laws.specs.Inversion.{IsAbove}
use Rattle.subtype_laws.proofs.Reflexive.{reflexive}
use Rattle.subtype_laws.proofs.Inversion.{to_above, from_above}

module _ {A : Type 0} (head : A → Node A) where
  abbrev S : A → A → Type 0
  S t u = IsSubtype head t u

  -- a type parameter is below another of its number, and below its own bound
  same : (t u b c : A) (n : ℕ) → head t ≡ node.Variable n b → head u ≡ node.Variable n c → S t u
  same t u b c n e f = from_above head t u (subst (λ x. IsAbove (IsSubtype head) u x (head u)) (sym e) (inr (inl (c, f))))

  own : (u c : A) (n : ℕ) → S c c → head u ≡ node.Variable n c → S u c
  own u c n self f = from_above head u c (subst (λ x. IsAbove (IsSubtype head) c x (head c)) (sym f) (inr (inr self)))

  other : (b c : A) (n : ℕ) → variable_of (head c) ≢ Some n → IsAbove (IsSubtype head) c (node.Variable n b) (head c) → S b c
  other b c n apart (inl e) = from_above head b c (inl e)
  other b c n apart (inr (inl (d, e))) = absurd (apart (ap variable_of e))
  other b c n apart (inr (inr s)) = s

  pub needed : ((t : A) → S t t) → ((t u v : A) → S t u → S u v → S t v) → (t u b c : A) (n : ℕ) → head t ≡ node.Variable n b → head u ≡ node.Variable n c → variable_of (head c) ≢ Some n → S b c
  needed self trans t u b c n e f apart =
      other b c n apart (subst (λ x. IsAbove (IsSubtype head) c x (head c)) e (to_above head t c (trans t u c (same t u b c n e f) (own u c n (self c) f))))

  pub one_bound : ((t : A) → OwnLabels (head t)) → SameBound head → OneBound head
  one_bound own bound t u b c n e f = subst (S b) (bound t u b c n e f) (reflexive head b (λ v r. own v))
