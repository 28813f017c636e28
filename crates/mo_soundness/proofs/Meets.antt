-- What arithmetic and equality meet in a typed expression.
use Rattle.std.proofs.Common.{◌≡◌, inl, inr, List, [], ◌∷◌, true≢false, refl, sym, subst, ℤ}
use Rattle.mo_num.specs.Kinds.{InRange}
use Rattle.mo_num.specs.declared.kind.Kind.{Kind}
use Rattle.mo_num.specs.declared.operator.Operator.{Operator}
use Rattle.mo_types.specs.declared.datum.Datum.TheVariants as part
use Rattle.mo_types.specs.declared.node.Node.TheVariants as node
use Rattle.mo_types.specs.declared.node.TypeId.{TypeId}
use Rattle.mo_values.specs.declared.operation.Operation.TheVariants as op
use Rattle.mo_values.specs.Shapes.{Leaf, Array, Error}
use Rattle.typed_tree.specs.declared.action.Action.TheVariants as action
use Rattle.typed_tree.specs.Language.{Value, Made, Function, BuiltIn, NoValue, AValue, Do, leaf}
use Rattle.typed_tree.specs.MemberTypes.{IsNumber}
use Rattle.typed_tree.specs.Wants.{Want, Of}
use Rattle.mo_meaning.specs.Places.{operands}
use Rattle.mo_soundness.specs.Meets.{MeetsNumbers, MeetsComparable}
use Rattle.mo_soundness.specs.Running.{Around, AnswerTypes, Does, HasValue, Typed, EachTyped}
use Rattle.mo_soundness.specs.Worlds.{World}
use Rattle.mo_soundness.proofs.Found.{At, opened}

module _ (world : World) (answers : AnswerTypes) (kinds : List TypeId) where
  number_seen : (k : Kind) (t : TypeId) (v : Value) → IsNumber world.head k t → HasValue world answers kinds (Of t) v → (n : ℤ) × (v ≡ leaf (part.Number n)) × InRange k n
  number_seen k t v q h = by v (opened world answers kinds t (node.Number k) v q h)
    where
      by : (v : Value) → At world answers kinds (node.Number k) t v → (n : ℤ) × (v ≡ leaf (part.Number n)) × InRange k n
      by (Made (Leaf (part.Number n)) NoValue) i = (n, refl, i.0.1)
      by (Made (Leaf (part.Number n)) (AValue u us)) i = absurd i.1
      by (Made (Leaf p) inner) i = absurd i.0.1
      by (Made Array inner) (inl r, i) = absurd r
      by (Made Array inner) (inr r, i) = absurd r
      by (Made (Error c m) inner) i = absurd (true≢false (sym i.0.0))
      by (Made h inner) i = absurd i.0
      by (Function g n) i = absurd i
      by (BuiltIn m holds) i = absurd i

  two_seen : (c : Around) (ws : List (Want TypeId)) (t : TypeId) (vs : List Value) → ws ≡ Of t ∷ Of t ∷ [] → EachTyped world answers kinds c (operands vs) ws
      → (v x : Value) × (vs ≡ v ∷ x ∷ []) × HasValue world answers kinds (Of t) v × HasValue world answers kinds (Of t) x
  two_seen c ws t vs e h = by vs (subst (EachTyped world answers kinds c (operands vs)) e h)
    where
      by : (vs : List Value) → EachTyped world answers kinds c (operands vs) (Of t ∷ Of t ∷ []) → (v x : Value) × (vs ≡ v ∷ x ∷ []) × HasValue world answers kinds (Of t) v × HasValue world answers kinds (Of t) x
      by [] k = absurd k
      by (v ∷ []) k = absurd k.1
      by (v ∷ x ∷ []) k = (v, x, refl, k.0, k.1.0)
      by (v ∷ x ∷ y ∷ ys) k = absurd k.1.1

  -- arithmetic has numbers of its kind
  pub arithmetic_meets : (c : Around) (o : Operator) (k : Kind) (vs : List Value) (w : Want TypeId) → Typed world answers kinds c (Do (action.Operate (op.Arithmetic o k)) (operands vs)) w → MeetsNumbers k vs
  arithmetic_meets c o k vs w (inl h) = by h.0 h.1 h.2
    where
      by : (ws : List (Want TypeId)) → Does world answers c (action.Operate (op.Arithmetic o k)) ws w → EachTyped world answers kinds c (operands vs) ws → MeetsNumbers k vs
      by ws (inl d) e =
          let t = d.2 in
          let z = two_seen c ws t.0 vs t.2 e in
          let m = number_seen k t.0 z.0 t.1 z.3 in
          let n = number_seen k t.0 z.1 t.1 z.4 in
          subst (MeetsNumbers k) (sym z.2) (m.0, n.0, both m.1 n.1, m.2, n.2)
        where
          both : {v x a b : Value} → v ≡ a → x ≡ b → (v ∷ x ∷ []) ≡ (a ∷ b ∷ [])
          both p q = λ i. p i ∷ q i ∷ []
      by ws (inr j) e = absurd j
  arithmetic_meets c o k vs w (inr (inl h)) = absurd h.0
  arithmetic_meets c o k vs w (inr (inr h)) = absurd h.0

  -- equality has values of a type that is compared
  pub equality_meets : (c : Around) (t : TypeId) (vs : List Value) (w : Want TypeId) → Typed world answers kinds c (Do (action.Operate (op.Equal t)) (operands vs)) w → MeetsComparable world answers kinds t vs
  equality_meets c t vs w (inl h) = by h.0 h.1 h.2
    where
      by : (ws : List (Want TypeId)) → Does world answers c (action.Operate (op.Equal t)) ws w → EachTyped world answers kinds c (operands vs) ws → MeetsComparable world answers kinds t vs
      by ws (inl d) e =
          let u = d.2 in
          let z = two_seen c ws u.0 vs u.2.1 e in
          (u.0, u.1, u.2.0, z.0, z.1, z.2, z.3, z.4)
      by ws (inr j) e = absurd j
  equality_meets c t vs w (inr (inl h)) = absurd h.0
  equality_meets c t vs w (inr (inr h)) = absurd h.0
