-- Annotations.
use Rattle.std.proofs.Common.{◌≡◌, ℕ, [], Option, Some, None, refl, sym, ◌∙◌}
use Rattle.typed_tree.specs.declared.expression.Form.TheOpen as F
use Rattle.typing_rules.specs.AbstractSyntax.{Bytes, Expression, TypeNode}
use Rattle.typing_rules.specs.AbstractSyntax as p
use Rattle.typing_rules.specs.AsyncPlaces.{Other}
use Rattle.typing_rules.specs.Contexts.{directly}
use Rattle.typing_rules.specs.Expressions.{Rule, actor_text}
use Rattle.typing_rules.specs.Terms.{Term}
use Rattle.typing_rules.specs.Types.{Reads}
use Rattle.desugaring_laws.specs.Yields.{Yields}
use Rattle.desugaring_laws.proofs.Yielding.{by_case, part as after}
use Rattle.expression_laws.proofs.Ending.{Setting, Place, as_wanted, Known, WantKnown, Is, IsTypedPart, Tree, judged, has, a_value, written}

module _ (S : Setting) (A : Place S) where
  pub annotated_typed : (at : ℕ) (a : Expression ℕ) (u : TypeNode) → IsTypedPart S A a → actor_text a ≡ None → (w : Option Term) → WantKnown S A w
      → Yields S.defs S.terms (Rule S.defs A.around (directly Other A.known) at (p.Annotated a u) w) (Is S A w)
  annotated_typed at a u j text w k =
      after S.defs S.terms (Reads S.defs A.known.types u) _ (Known S A) (Is S A w) (written S A u) (λ v kv.
      by_case S.defs S.terms (actor_text a) _ _ (Is S A w) (λ x e. absurd (differ x e)) (λ e.
      judged S A a j (Some v) kv.fine _ (Is S A w) (λ b i.
      has S A at w v (p.Annotated b u) (λ l. refl) k (λ m. a_value S A v kv (F.Block [] (Tree S A b)) (S.number v, refl, as_wanted S A.known.labels A.frame A.context v b i)))))
    where
      differ : (x : Bytes) → actor_text a ≡ Some x → ⊥
      differ x e = let f : None ≡ Some x = sym text ∙ e in cc
