-- What is wanted of an expression.
use Rattle.std.proofs.Common.{◌≡◌, true, false, List, Option, Some, None, sym, ap, ◌∙◌}
use Rattle.mo_types.specs.declared.node.Node.{Node}
use Rattle.typing_rules.specs.Definitions.{Definitions}
use Rattle.typing_rules.specs.Ends.{with_type, wanted}
use Rattle.typing_rules.specs.Heads.{head}
use Rattle.typing_rules.specs.Judgements.{Judgement, Gives, Fails, Asks, Meets}
use Rattle.typing_rules.specs.Terms.{Term}
use Rattle.desugaring_laws.specs.Yields.{Yields}

-- what a judgement gives has each of these properties
pub for_all : {A T : Type 0} (defs : Definitions) (terms : List Term) (j : Judgement A) (P : T → A → Type 0) → ((t : T) → Yields defs terms j (P t)) → Yields defs terms j (λ a. (t : T) → P t a)
for_all defs terms (Gives a) P y = y
for_all defs terms (Fails c place) P y = tt
for_all defs terms (Asks q next) P y = (λ h. for_all defs terms (next true) P (λ t. (y t).0 h), λ h. for_all defs terms (next false) P (λ t. (y t).1 h))
for_all defs terms (Meets u next) P y = λ h. for_all defs terms next P (λ t. y t h)

module _ (defs : Definitions) where
  typed_is : {X : Type 0} (u : Term) (o : Option X) (q : Term × X) → with_type defs u o ≡ Some q → (q.0 ≡ u) × (o ≡ Some q.1)
  typed_is u None q h = cc
  typed_is u (Some x) q h = let e : Some (u, x) ≡ Some q = h in (let f : (u, x) ≡ q = cc in ap (λ z. z.0) (sym f), let f : (u, x) ≡ q = cc in ap (λ z. Some z.1) f)

  -- the type that is wanted, and what was found of its head
  pub wanted_is : {X : Type 0} (of : Node Term → Option X) (w : Option Term) (q : Term × X) → wanted defs of w ≡ Some q → (w ≡ Some q.0) × (of (head defs q.0) ≡ Some q.1)
  wanted_is of None q h = cc
  wanted_is of (Some u) q h = let e = typed_is u (of (head defs u)) q h in (ap (λ z. Some z) (sym e.0), ap (λ z. of (head defs z)) e.0 ∙ e.1)
