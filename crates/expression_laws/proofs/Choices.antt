-- Choices: what the branches give, where a type is wanted and where none is.
use Rattle.std.proofs.Common.{◌≡◌, inl, inr, ℕ, List, [], ◌∷◌, Option, Some, None, refl, subst}
use Rattle.mo_types.specs.Sub.{IsSubtype}
use Rattle.subtype_laws.specs.Reached.{Among}
use Rattle.typed_tree.specs.declared.expression.Form.TheOpen as F
use Rattle.typed_tree.specs.declared.expression.TypedExpression.{TypedExpression}
use Rattle.typed_tree.specs.Typing.{Typed}
use Rattle.typed_tree.specs.Wants.{Of}
use Rattle.typing_rules.specs.declared.condition.Condition.TheVariants as condition
use Rattle.typing_rules.specs.AbstractSyntax.{Expression, Form}
use Rattle.typing_rules.specs.AbstractSyntax as p
use Rattle.typing_rules.specs.AsyncPlaces.{Other}
use Rattle.typing_rules.specs.Contexts.{directly}
use Rattle.typing_rules.specs.Ends.{Branches, Greatest}
use Rattle.typing_rules.specs.Expressions.{Rule}
use Rattle.typing_rules.specs.Heads.{head}
use Rattle.typing_rules.specs.Terms.{Term}
use Rattle.typing_rules.specs.Terms as t
use Rattle.typing_rules.specs.TypedTrees.{Note, type_of}
use Rattle.desugaring.specs.Nodes.{node_of}
use Rattle.desugaring_laws.specs.Yields.{Yields}
use Rattle.desugaring_laws.proofs.Graph.{below_number}
use Rattle.desugaring_laws.proofs.Yielding.{part as after}
use Rattle.expression_laws.proofs.Ending.{Setting, Place, IsTypedPart, value_of, as_wanted, Known, WantKnown, Is, IsPart, Tree, Value, Made, IsPlain, judged, wanting, has, fits, a_value}
use Rattle.expression_laws.proofs.Greatest.{IsGreatest, greatest}
use Rattle.expression_laws.proofs.Heads.{boolean_fine}
use Rattle.expression_laws.proofs.Simple.{boolean_there, as_fine}

module _ (S : Setting) (A : Place S) where
  -- what a branch is, where a type is wanted or none is
  abbrev pub IsBranch : Option Term → p.Expression Note → Type 0
  IsBranch w b = IsPart S A w b

  -- branches of these types fit where the whole does: each is typed at the whole's type
  pub branches : (at : ℕ) (w : Option Term) (us : List Term) (x : Form Note) → ((u : Term) → IsPlain S A at u x) → WantKnown S A w → ((u : Term) → Among u us → Known S A u)
      → ((v : Term) → w ≡ Some v → Known S A v → Value S A v (Made S A at v x))
      → (w ≡ None → (v : Term) → Known S A v → ((u : Term) → Among u us → IsSubtype (head S.defs) u v) → Value S A v (Made S A at v x))
      → Yields S.defs S.terms (Branches at w us x) (Is S A w)
  branches at (Some v) us x q k known wanted given = fits S A at v x (q v) (wanted v refl k) (Some v) refl
  branches at None us x q k known wanted given =
      after S.defs S.terms (Greatest condition.Branches at us) _ (IsGreatest S.defs S.terms us) (Is S A None) (greatest S.defs S.terms condition.Branches at us) (λ v i.
      has S A at None v x (q v) tt (λ m. given refl v (known v i.among) i.above))

  -- a branch at the type of the whole
  pub at_whole : (w : Option Term) (b : p.Expression Note) → IsPart S A w b → (v : Term) → w ≡ Some v → Typed S.slots (Tree S A b) A.context (Of (S.number v))
  at_whole w b i v e = as_wanted S A.known.labels A.frame A.context v b (subst (λ z. IsPart S A z b) e i)

  pub above_branch : (w : Option Term) (b : p.Expression Note) → IsPart S A w b → (v : Term) → Known S A v → IsSubtype (head S.defs) (type_of b) v → Typed S.slots (Tree S A b) A.context (Of (S.number v))
  above_branch w b i v k h =
      let y = value_of S A.known.labels A.frame A.context w b i in
      y.typed (S.number v) (below_number S.defs S.slots S.terms S.number S.graph (type_of b) v y.known.there k.there h)

  if_value : (v : Term) → Known S A v → (c x y : TypedExpression) → Among t.Boolean S.terms → Typed S.slots c A.context (Of (S.number t.Boolean)) → Typed S.slots x A.context (Of (S.number v)) → Typed S.slots y A.context (Of (S.number v))
      → Value S A v (node_of (S.number v) (F.If c x y))
  if_value v k c x y m h i j = a_value S A v k (F.If c x y) (S.number v, S.number t.Boolean, refl, boolean_there S m, h, i, j)

  pub two_known : (u v : Term) → Known S A u → Known S A v → (z : Term) → Among z (u ∷ v ∷ []) → Known S A z
  two_known u v k l z (inl e) = subst (λ s. Known S A s) e k
  two_known u v k l z (inr (inl e)) = subst (λ s. Known S A s) e l
  two_known u v k l z (inr (inr m)) = absurd m

  pub if_typed : (at : ℕ) (c a b : Expression ℕ) → IsTypedPart S A c → IsTypedPart S A a → IsTypedPart S A b → (w : Option Term) → WantKnown S A w
      → Yields S.defs S.terms (Rule S.defs A.around (directly Other A.known) at (p.If c a b) w) (Is S A w)
  if_typed at c a b jc ja jb w k =
      wanting S A c jc t.Boolean (boolean_fine S.defs A.context.parameters) _ (Is S A w) (λ d m i.
      judged S A a ja w (as_fine S A w k) _ (Is S A w) (λ x ix.
      judged S A b jb w (as_fine S A w k) _ (Is S A w) (λ y iy.
      branches at w (type_of x ∷ type_of y ∷ []) (p.If d x y) (λ u l. refl) k
      (two_known (type_of x) (type_of y) (value_of S A.known.labels A.frame A.context w x ix).known (value_of S A.known.labels A.frame A.context w y iy).known)
      (λ v e known. if_value v known (Tree S A d) (Tree S A x) (Tree S A y) m (as_wanted S A.known.labels A.frame A.context t.Boolean d i) (at_whole w x ix v e) (at_whole w y iy v e))
      (λ e v known h. if_value v known (Tree S A d) (Tree S A x) (Tree S A y) m (as_wanted S A.known.labels A.frame A.context t.Boolean d i)
      (above_branch w x ix v known (h (type_of x) (inl refl))) (above_branch w y iy v known (h (type_of y) (inr (inl refl))))))))
