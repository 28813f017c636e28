-- Parts of values: of tuples, arrays, objects, actors and texts.
use Rattle.std.proofs.Common.{◌≡◌, ◌⊎◌, inl, inr, ℕ, zero, suc, Bool, true, false, List, [], ◌∷◌, map, Option, Some, None, refl, sym, ap, ◌∙◌, subst}
use Rattle.std.specs.Prelude.{slice_get}
use Rattle.mo_num.specs.declared.kind.Kind.TheVariants as kind
use Rattle.mo_types.specs.declared.node.Field.{Field}
use Rattle.mo_types.specs.declared.node.Node.{Node}
use Rattle.mo_types.specs.declared.node.Node.TheVariants as node
use Rattle.mo_types.specs.Graph.{head_at}
use Rattle.mo_types.specs.Heads.{tuple_of}
use Rattle.mo_types.specs.Sub.{find}
use Rattle.mo_subtype.specs.Renamed.{on_field}
use Rattle.mo_values.specs.declared.operation.Operation.TheVariants as op
use Rattle.met_types.proofs.Counted.{place_among}
use Rattle.subtype_laws.specs.Reached.{Among}
use Rattle.typed_tree.specs.declared.action.Action.TheVariants as action
use Rattle.typed_tree.specs.declared.expression.TypedExpression.{TypedExpression}
use Rattle.typed_tree.specs.Has.{by_mutability}
use Rattle.typed_tree.specs.Typing.{Typed}
use Rattle.typed_tree.specs.Wants.{Of, CellOf}
use Rattle.typing_rules.specs.AbstractSyntax.{Bytes, Expression}
use Rattle.typing_rules.specs.AbstractSyntax as p
use Rattle.typing_rules.specs.AsyncPlaces.{Other}
use Rattle.typing_rules.specs.Contexts.{directly}
use Rattle.typing_rules.specs.Expressions.{Rule, element_of}
use Rattle.typing_rules.specs.Heads.{head, members_head}
use Rattle.typing_rules.specs.Terms.{Term, nat}
use Rattle.typing_rules.specs.TypedTrees.{type_of}
use Rattle.desugaring.specs.Expressions.{element_at, is_mutable}
use Rattle.desugaring.specs.Nodes.{held, operates}
use Rattle.desugaring_laws.specs.Yields.{Yields}
use Rattle.desugaring_laws.proofs.HeadForms.{is_tuple}
use Rattle.desugaring_laws.proofs.Patterns.{find_seen, find_among}
use Rattle.desugaring_laws.proofs.Yielding.{given}
use Rattle.expression_laws.proofs.Ending.{Setting, Place, there, inside, value_of, as_wanted, Known, WantKnown, Is, IsTypedPart, Tree, Value, judged, wanting, has, acts, a_cell}
use Rattle.expression_laws.proofs.Heads.{number_head, number_fine}
use Rattle.expression_laws.proofs.Promoting.{promotes}

element_is : (y : Node Term) (u : Term) → element_of y ≡ Some u → (y ≡ node.Array u) ⊎ (y ≡ node.MutArray u)
element_is (node.Array a) u e = let g : a ≡ u = cc in inl (ap (λ z. node.Array z) g)
element_is (node.MutArray a) u e = let g : a ≡ u = cc in inr (ap (λ z. node.MutArray z) g)
element_is (node.Variable v c) u e = cc
element_is (node.Number k) u e = cc
element_is node.Bool u e = cc
element_is node.Char u e = cc
element_is node.Text u e = cc
element_is node.Blob u e = cc
element_is node.Principal u e = cc
element_is node.Error u e = cc
element_is node.Null u e = cc
element_is node.Any u e = cc
element_is node.Bottom u e = cc
element_is (node.Opt a) u e = cc
element_is (node.Tuple ts) u e = cc
element_is (node.Object fs) u e = cc
element_is (node.Actor fs) u e = cc
element_is (node.Variant fs) u e = cc
element_is (node.Func s ps rs) u e = cc
element_is (node.Async a) u e = cc

get_mapped : {X Y : Type 0} (f : X → Y) (xs : List X) (n : ℕ) (x : X) → slice_get xs n ≡ Some x → slice_get (map f xs) n ≡ Some (f x)
get_mapped f [] n x e = cc
get_mapped f (y ∷ xs) zero x e = let g : y ≡ x = cc in ap (λ z. Some (f z)) g
get_mapped f (y ∷ xs) (suc n) x e = get_mapped f xs n x e

module _ (S : Setting) (A : Place S) where
  abbrev Asked : ℕ → p.Form ℕ → Type 0
  Asked at x = (w : Option Term) → WantKnown S A w → Yields S.defs S.terms (Rule S.defs A.around (directly Other A.known) at x w) (Is S A w)

  pub projection_typed : (at : ℕ) (a : Expression ℕ) (n : ℕ) → IsTypedPart S A a → Asked at (p.Projection a n)
  projection_typed at a n j w k =
      judged S A a j None tt _ (Is S A w) (λ b i.
      given S.defs S.terms _ at (tuple_of (members_head S.defs (type_of b))) _ (Is S A w) (λ us e.
      given S.defs S.terms _ at (slice_get us n) _ (Is S A w) (λ u g.
      let r = promotes S A (type_of b) (Tree S A b) (value_of S A.known.labels A.frame A.context None b i) in
      let h : head S.defs r.type ≡ node.Tuple us = r.head_is ∙ is_tuple (members_head S.defs (type_of b)) us e in
      has S A at w u (p.Projection b n) (λ l. refl) k (λ m.
      acts S A u (inside S A.context.parameters r.type u r.known (node.Tuple us) h (place_among u us n g)) (action.Operate (op.Project n)) (Tree S A b ∷ []) (Of (S.number r.type) ∷ [])
      (S.number r.type, refl, (map S.number us, S.number u, there S r.type r.known.there (node.Tuple us) h, get_mapped S.number us n u g, refl)) (r.typed, tt)))))

  -- ---- elements

  pub nat_there : Among nat S.terms → head_at S.slots (S.number nat) ≡ node.Number kind.Nat
  nat_there m = there S nat m (node.Number kind.Nat) (number_head S.defs kind.Nat)

  -- the cell of an element
  pub element_cell : (v u : Term) → Known S A v → head S.defs v ≡ node.MutArray u → (x y : TypedExpression) → Typed S.slots x A.context (Of (S.number v)) → Among nat S.terms → Typed S.slots y A.context (Of (S.number nat))
      → Typed S.slots (operates S.defs S.number u op.Element (x ∷ y ∷ [])) A.context (CellOf (S.number u))
  element_cell v u k e x y hx m hy =
      a_cell S A u (inside S A.context.parameters v u k (node.MutArray u) e (inl refl)) (action.Operate op.Element) (x ∷ y ∷ []) (Of (S.number v) ∷ Of (S.number nat) ∷ [])
      (S.number v, S.number nat, S.number u, refl, nat_there m, inr (there S v k.there (node.MutArray u) e, refl)) (hx, (hy, tt))

  -- what a cell holds
  pub read_cell : (u : Term) → Known S A u → (x : TypedExpression) → Typed S.slots x A.context (CellOf (S.number u)) → Value S A u (held S.defs S.number u true x)
  read_cell u k x h = acts S A u k action.Read (x ∷ []) (CellOf (S.number u) ∷ []) (S.number u, refl, refl) (h, tt)

  element_value : (y : Node Term) (v u : Term) → Known S A v → head S.defs v ≡ y → element_of y ≡ Some u → (x z : TypedExpression) → Typed S.slots x A.context (Of (S.number v)) → Among nat S.terms
      → Typed S.slots z A.context (Of (S.number nat)) → Value S A u (element_at S.defs S.number u y x z)
  element_value y v u k e f x z hx m hz = by (element_is y u f) where
    by : (y ≡ node.Array u) ⊎ (y ≡ node.MutArray u) → Value S A u (element_at S.defs S.number u y x z)
    by (inl g) =
        subst (λ n. Value S A u (element_at S.defs S.number u n x z)) (sym g)
        (acts S A u (inside S A.context.parameters v u k (node.Array u) (e ∙ g) (inl refl)) (action.Operate op.Element) (x ∷ z ∷ []) (Of (S.number v) ∷ Of (S.number nat) ∷ [])
        (S.number v, S.number nat, S.number u, refl, nat_there m, inl (there S v k.there (node.Array u) (e ∙ g), refl)) (hx, (hz, tt)))
    by (inr g) =
        subst (λ n. Value S A u (element_at S.defs S.number u n x z)) (sym g)
        (read_cell u (inside S A.context.parameters v u k (node.MutArray u) (e ∙ g) (inl refl)) (operates S.defs S.number u op.Element (x ∷ z ∷ [])) (element_cell v u k (e ∙ g) x z hx m hz))

  pub index_typed : (at : ℕ) (a i : Expression ℕ) → IsTypedPart S A a → IsTypedPart S A i → Asked at (p.Index a i)
  index_typed at a i ja ji w k =
      judged S A a ja None tt _ (Is S A w) (λ b h.
      given S.defs S.terms _ at (element_of (members_head S.defs (type_of b))) _ (Is S A w) (λ u e.
      wanting S A i ji nat (number_fine S.defs A.context.parameters kind.Nat) _ (Is S A w) (λ x m hx.
      let r = promotes S A (type_of b) (Tree S A b) (value_of S A.known.labels A.frame A.context None b h) in
      has S A at w u (p.Index b x) (λ l. refl) k (λ m'.
      element_value (members_head S.defs (type_of b)) r.type u r.known r.head_is e (Tree S A b) (Tree S A x) r.typed m (as_wanted S A.known.labels A.frame A.context nat x hx)))))

  -- ---- fields and methods

  -- a field of an object, which is read where it is a `var` field
  pub field_cell : (v : Term) → Known S A v → (fs : List (Field Term)) → head S.defs v ≡ node.Object fs → (l : Bytes) (f : Field Term) → find l fs ≡ Some f → f.mutable ≡ true → (x : TypedExpression) → Typed S.slots x A.context (Of (S.number v))
      → Typed S.slots (operates S.defs S.number f.part (op.Field l) (x ∷ [])) A.context (CellOf (S.number f.part))
  field_cell v k fs e l f g m x h =
      a_cell S A f.part (inside S A.context.parameters v f.part k (node.Object fs) e (find_among l fs f g)) (action.Operate (op.Field l)) (x ∷ []) (Of (S.number v) ∷ [])
      (S.number v, refl, (map (on_field S.number) fs, on_field S.number f, there S v k.there (node.Object fs) e, find_seen S.number l fs f g, ap (λ b. by_mutability b (S.number f.part)) (sym m))) (h, tt)

  pub field_value : (v : Term) → Known S A v → (fs : List (Field Term)) → head S.defs v ≡ node.Object fs → (l : Bytes) (f : Field Term) → find l fs ≡ Some f → (x : TypedExpression) → Typed S.slots x A.context (Of (S.number v))
      → Value S A f.part (held S.defs S.number f.part (is_mutable (find l fs)) (operates S.defs S.number f.part (op.Field l) (x ∷ [])))
  field_value v k fs e l f g x h = subst (λ o. Value S A f.part (held S.defs S.number f.part (is_mutable o) (operates S.defs S.number f.part (op.Field l) (x ∷ [])))) (sym g) (by f.mutable refl) where
    part : Known S A f.part
    part = inside S A.context.parameters v f.part k (node.Object fs) e (find_among l fs f g)

    by : (b : Bool) → f.mutable ≡ b → Value S A f.part (held S.defs S.number f.part b (operates S.defs S.number f.part (op.Field l) (x ∷ [])))
    by true m = read_cell f.part part (operates S.defs S.number f.part (op.Field l) (x ∷ [])) (field_cell v k fs e l f g m x h)
    by false m =
        acts S A f.part part (action.Operate (op.Field l)) (x ∷ []) (Of (S.number v) ∷ [])
        (S.number v, refl, (map (on_field S.number) fs, on_field S.number f, there S v k.there (node.Object fs) e, find_seen S.number l fs f g, ap (λ b. by_mutability b (S.number f.part)) (sym m))) (h, tt)
