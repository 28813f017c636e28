-- Variants.
use Rattle.std.proofs.Common.{◌≡◌, ℕ, false, List, [], ◌∷◌, map, Option, Some, None, refl, ap, subst}
use Rattle.mo_types.specs.declared.node.Field.{Field}
use Rattle.mo_types.specs.declared.node.Node.TheVariants as node
use Rattle.mo_types.specs.Heads.{variant_of}
use Rattle.mo_types.specs.Sub.{find}
use Rattle.std.proofs.lemmas.Slice.Eq.{bytes_eq-Decides}
use Rattle.std.specs.Prelude.{if◌then◌else◌}
use Rattle.mo_subtype.specs.Renamed.{on_field}
use Rattle.mo_values.specs.declared.operation.Operation.TheVariants as op
use Rattle.subtype_laws.specs.Reached.{Among}
use Rattle.typed_tree.specs.declared.action.Action.TheVariants as action
use Rattle.typed_tree.specs.declared.expression.TypedExpression.{TypedExpression}
use Rattle.typed_tree.specs.Typing.{Typed}
use Rattle.typed_tree.specs.Wants.{Of}
use Rattle.typing_rules.specs.declared.condition.Condition.TheVariants as condition
use Rattle.typing_rules.specs.AbstractSyntax.{Bytes, Expression}
use Rattle.typing_rules.specs.AbstractSyntax as p
use Rattle.typing_rules.specs.AsyncPlaces.{Other}
use Rattle.typing_rules.specs.Contexts.{directly}
use Rattle.typing_rules.specs.Ends.{wanted}
use Rattle.typing_rules.specs.Expressions.{Rule}
use Rattle.typing_rules.specs.Heads.{head}
use Rattle.typing_rules.specs.Terms.{Term, unit}
use Rattle.typing_rules.specs.Terms as t
use Rattle.typing_rules.specs.TypedTrees.{type_of}
use Rattle.desugaring.specs.Nodes.{operates, unit_value}
use Rattle.desugaring_laws.specs.Known.{IsFine}
use Rattle.desugaring_laws.specs.Yields.{Yields}
use Rattle.desugaring_laws.proofs.HeadForms.{is_variant}
use Rattle.desugaring_laws.proofs.Patterns.{find_seen, find_among, unit_fine}
use Rattle.desugaring_laws.proofs.Yielding.{given, by_case}
use Rattle.expression_laws.proofs.Ending.{Setting, Place, there, inside, value_of, as_wanted, as_given, Known, WantKnown, Is, IsTypedPart, Tree, Value, judged, has, fits, acts}
use Rattle.expression_laws.proofs.Heads.{variant_head, made_fine}
use Rattle.expression_laws.proofs.Simple.{unit_typed, unit_at, only}
use Rattle.expression_laws.proofs.Wanting.{wanted_is}

module _ (S : Setting) (A : Place S) where
  abbrev Asked : ℕ → p.Form ℕ → Type 0
  Asked n x = (w : Option Term) → WantKnown S A w → Yields S.defs S.terms (Rule S.defs A.around (directly Other A.known) n x w) (Is S A w)

  abbrev tag : Bytes → Term → Field Term
  tag x u = record { label = x; mutable = false; part = u }

  tag_value : (v : Term) → Known S A v → (fs : List (Field Term)) → head S.defs v ≡ node.Variant fs → (x : Bytes) (f : Field Term) → find x fs ≡ Some f → (z : TypedExpression) → Typed S.slots z A.context (Of (S.number f.part))
      → Value S A v (operates S.defs S.number v (op.MakeTag x) (z ∷ []))
  tag_value v k fs e x f g z h =
      acts S A v k (action.Operate (op.MakeTag x)) (z ∷ []) (Of (S.number f.part) ∷ [])
      (S.number v, refl, (map (on_field S.number) fs, on_field S.number f, there S v k.there (node.Variant fs) e, find_seen S.number x fs f g, refl)) (h, tt)

  found_one : (x : Bytes) (u : Term) → find x (tag x u ∷ []) ≡ Some (tag x u)
  found_one x u = ap (λ b. if b then Some (tag x u) else None) ((bytes_eq-Decides x x).1 refl)

  -- a variant of this tag alone
  one_fine : (x : Bytes) (u : Term) → IsFine S.defs A.context.parameters u → IsFine S.defs A.context.parameters (t.Variant (t.constant x u t.NoFields))
  one_fine x u h = made_fine S.defs A.context.parameters (t.Variant (t.constant x u t.NoFields)) (node.Variant (tag x u ∷ [])) (variant_head S.defs (t.constant x u t.NoFields)) tt refl (only S A u h.scoped)

  one_value : (x : Bytes) (u : Term) → IsFine S.defs A.context.parameters u → Among (t.Variant (t.constant x u t.NoFields)) S.terms → (z : TypedExpression) → Typed S.slots z A.context (Of (S.number u))
      → Value S A (t.Variant (t.constant x u t.NoFields)) (operates S.defs S.number (t.Variant (t.constant x u t.NoFields)) (op.MakeTag x) (z ∷ []))
  one_value x u h m z hz =
      tag_value (t.Variant (t.constant x u t.NoFields)) (record { there = m; fine = one_fine x u h }) (tag x u ∷ []) (variant_head S.defs (t.constant x u t.NoFields)) x (tag x u) (found_one x u) z hz

  pub tag_typed : (n : ℕ) (x : Bytes) → Asked n (p.Tag x)
  tag_typed n x w k =
      by_case S.defs S.terms (wanted S.defs variant_of w) _ _ (Is S A w) (λ q e.
      let r = wanted_is S.defs variant_of w q e in
      let h : head S.defs q.0 ≡ node.Variant q.1 = is_variant (head S.defs q.0) q.1 r.1 in
      let v : Known S A q.0 = subst (λ z. WantKnown S A z) r.0 k in
      given S.defs S.terms condition.Mismatch n (find x q.1) _ (Is S A w) (λ f g.
      λ m. (
        λ below.
            fits S A n q.0 (p.Tag x) (λ l. refl)
            (tag_value q.0 v q.1 h x f g (unit_value S.defs S.number) (unit_at S A f.part (inside S A.context.parameters q.0 f.part v (node.Variant q.1) h (find_among x q.1 f g)) below)) w r.0,
        λ no. tt,
      ))) (λ e.
      has S A n w (t.Variant (t.constant x unit t.NoFields)) (p.Tag x) (λ l. refl) k (λ m.
      one_value x unit (unit_fine S.defs A.context.parameters) m (unit_value S.defs S.number) (unit_typed S A)))

  pub tagged_typed : (n : ℕ) (x : Bytes) (a : Expression ℕ) → IsTypedPart S A a → Asked n (p.Tagged x a)
  tagged_typed n x a j w k =
      by_case S.defs S.terms (wanted S.defs variant_of w) _ _ (Is S A w) (λ q e.
      let r = wanted_is S.defs variant_of w q e in
      let h : head S.defs q.0 ≡ node.Variant q.1 = is_variant (head S.defs q.0) q.1 r.1 in
      let v : Known S A q.0 = subst (λ z. WantKnown S A z) r.0 k in
      given S.defs S.terms condition.Mismatch n (find x q.1) _ (Is S A w) (λ f g.
      judged S A a j (Some f.part) (inside S A.context.parameters q.0 f.part v (node.Variant q.1) h (find_among x q.1 f g)).fine _ (Is S A w) (λ b i.
      fits S A n q.0 (p.Tagged x b) (λ l. refl) (tag_value q.0 v q.1 h x f g (Tree S A b) (as_wanted S A.known.labels A.frame A.context f.part b i)) w r.0))) (λ e.
      judged S A a j None tt _ (Is S A w) (λ b i.
      has S A n w (t.Variant (t.constant x (type_of b) t.NoFields)) (p.Tagged x b) (λ l. refl) k (λ m.
      one_value x (type_of b) (value_of S A.known.labels A.frame A.context None b i).known.fine m (Tree S A b) (as_given S A.known.labels A.frame A.context None b i))))
