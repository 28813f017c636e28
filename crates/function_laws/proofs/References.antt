-- Actor references.
use Rattle.std.proofs.Common.{◌≡◌, ℕ, true, [], Option, Some, None, refl, sym, subst}
use Rattle.std.specs.Prelude.{is_some}
use Rattle.mo_types.specs.declared.node.Node.TheVariants as node
use Rattle.mo_types.specs.Heads.{actor_of}
use Rattle.mo_types.specs.Values.{IsPartOf}
use Rattle.mo_types.specs.declared.datum.Datum.TheVariants as part
use Rattle.typed_tree.specs.declared.expression.Form.TheOpen as F
use Rattle.typed_tree.specs.declared.literal.Literal.TheVariants as literal
use Rattle.typing_rules.specs.declared.condition.Condition.TheVariants as condition
use Rattle.typing_rules.specs.AbstractSyntax.{Bytes, TypeNode}
use Rattle.typing_rules.specs.AbstractSyntax as p
use Rattle.typing_rules.specs.AsyncPlaces.{Other}
use Rattle.typing_rules.specs.Contexts.{directly}
use Rattle.typing_rules.specs.Expressions.{Rule}
use Rattle.typing_rules.specs.Heads.{head}
use Rattle.typing_rules.specs.Terms.{Term}
use Rattle.typing_rules.specs.TypedTrees.{typed as at_type}
use Rattle.typing_rules.specs.Types.{Reads}
use Rattle.desugaring.specs.Nodes.{constant}
use Rattle.desugaring.specs.PrincipalBytes.{principal_bytes}
use Rattle.desugaring_laws.specs.Yields.{Yields}
use Rattle.desugaring_laws.proofs.HeadForms.{is_actor}
use Rattle.desugaring_laws.proofs.Yielding.{tests, part as after}
use Rattle.expression_laws.proofs.Ending.{Setting, Place, self, there, Known, WantKnown, Is, has, a_value, written}
use Rattle.function_laws.proofs.ReferenceBytes.{few_bytes}

some_is : {A : Type 0} (o : Option A) → is_some o ≡ true → (a : A) × (o ≡ Some a)
some_is None h = cc
some_is (Some a) h = (a, refl)

module _ (S : Setting) (A : Place S) where
  -- `actor "..." : T`
  pub reference_typed : (n m : ℕ) (x : Bytes) (u : TypeNode) (w : Option Term) → WantKnown S A w
      → Yields S.defs S.terms (Rule S.defs A.around (directly Other A.known) n (p.Annotated (p.exp m (p.ActorReference x)) u) w) (Is S A w)
  reference_typed n m x u w k =
      after S.defs S.terms (Reads S.defs A.known.types u) _ (Known S A) (Is S A w) (written S A u) (λ v kv.
      tests S.defs S.terms condition.NotActor n (is_some (actor_of (head S.defs v))) _ (Is S A w) (λ is. (
        λ h.
            let fs = some_is (actor_of (head S.defs v)) is in
            let e = there S v kv.there (node.Actor fs.0) (is_actor (head S.defs v) fs.0 fs.1) in
            let bytes = principal_bytes x in
            has S A n w v (p.Annotated (at_type m v (p.ActorReference x)) u) (λ l. refl) k (λ q.
            a_value S A v kv (F.Block [] (constant S.defs S.number v (literal.Actor bytes)))
            (S.number v, refl, (a_value S A v kv (F.Constant (literal.Actor bytes)) (S.number v, refl, (tt, subst (λ y. IsPartOf y (part.Actor bytes)) (sym e) (few_bytes h.0 x h.1 h.2)))).typed (S.number v) (self S (S.number v)))),
        λ h. tt,
      )))
