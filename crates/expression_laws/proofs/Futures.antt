-- Names, `await`, and calls, which may give futures.
use Rattle.std.proofs.Common.{◌≡◌, inl, inr, ℕ, Bool, true, false, List, [], ◌∷◌, Option, Some, None, refl, sym, ap, ◌∙◌, subst}
use Rattle.std.specs.Prelude.{is_some, slice_get}
use Rattle.mo_types.specs.declared.node.Node.TheVariants as node
use Rattle.mo_types.specs.declared.node.Sort.TheVariants as sort
use Rattle.mo_types.specs.declared.node.TypeId.{TypeId}
use Rattle.mo_types.specs.Heads.{async_of}
use Rattle.subtype_laws.specs.Reached.{Among}
use Rattle.typed_tree.specs.declared.action.Action.TheVariants as action
use Rattle.typed_tree.specs.declared.expression.Form.TheOpen as F
use Rattle.typed_tree.specs.Instances.{MentionsOnly}
use Rattle.typed_tree.specs.Typing.{Typed}
use Rattle.typed_tree.specs.TypingLaws.{form_typing}
use Rattle.typed_tree.specs.Wants.{Want, Of, CellOf, FutureOf}
use Rattle.typing_rules.specs.AbstractSyntax.{Bytes, Expression}
use Rattle.typing_rules.specs.AbstractSyntax as p
use Rattle.typing_rules.specs.AsyncPlaces.{Body, Update, Query, Local, Around, Awaited, Named, Labelled, Other, calls, takes_call, takes_name, FuturePlaced}
use Rattle.typing_rules.specs.Contexts.{Bound, directly, value_named}
use Rattle.typing_rules.specs.Ends.{Has}
use Rattle.typing_rules.specs.Expressions.{Judge, Rule}
use Rattle.typing_rules.specs.Heads.{head}
use Rattle.typing_rules.specs.Patterns.{is_empty}
use Rattle.typing_rules.specs.Terms.{Term}
use Rattle.typing_rules.specs.TypedTrees.{Note, note, type_of}
use Rattle.desugaring.specs.Frames.{Use, found}
use Rattle.desugaring.specs.Nodes.{at, held, named}
use Rattle.desugaring.specs.Nodes as nodes
use Rattle.desugaring_laws.specs.Yields.{Yields}
use Rattle.desugaring_laws.proofs.Graph.{in_scope}
use Rattle.desugaring_laws.proofs.Yielding.{given, tests, if_so, part as after}
use Rattle.expression_laws.specs.Fitting.{sort_of, StandsFor, AValue, ACell, AFuture, AGeneric}
use Rattle.expression_laws.specs.Results.{TakesFuture, GivesFuture, Gives, Becomes}
use Rattle.expression_laws.proofs.Ending.{Setting, Place, self, there, Known, WantKnown, Is, IsTypedPart, Tree, Value, plain, has_so, has, a_value, acts}
use Rattle.expression_laws.proofs.Heads.{made_scoped}
use Rattle.expression_laws.proofs.Parts.{read_cell}
use Rattle.expression_laws.proofs.Simple.{moved, only}
use Rattle.expression_laws.proofs.Trees.{node as a_node, cell_node}

takes_name_is : (o : Around) → takes_name o ≡ true → TakesFuture o
takes_name_is Awaited e = tt
takes_name_is Named e = cc
takes_name_is Labelled e = cc
takes_name_is Other e = cc

pub takes_call_is : (o : Around) → takes_call o ≡ true → TakesFuture o
takes_call_is Awaited e = tt
takes_call_is Named e = tt
takes_call_is Labelled e = cc
takes_call_is Other e = cc

pub calls_shared : (b : Body) → calls b ≡ true → sort_of b ≡ sort.Shared
calls_shared Update e = refl
calls_shared Query e = cc
calls_shared Local e = cc

empty_no : (vs : List ℕ) → is_empty vs ≡ true → (vs ≡ [] → ⊥) → ⊥
empty_no [] e h = h refl
empty_no (v ∷ vs) e h = cc

module _ (S : Setting) (A : Place S) where
  -- where a future may stand
  unfoldable pub IsPlaced : Bool → Term → Type 0
  IsPlaced takes u = is_some (async_of (head S.defs u)) ≡ true → (calls A.known.body ≡ true) × (takes ≡ true)

  pub placed : (takes : Bool) (n : ℕ) (u : Term) → Yields S.defs S.terms (FuturePlaced S.defs A.known.body takes n u) (λ x. IsPlaced takes u)
  unfolding IsPlaced
  placed takes n u =
      if_so S.defs S.terms (is_some (async_of (head S.defs u))) _ _ (λ x. IsPlaced takes u)
      (λ e. tests S.defs S.terms _ n (calls A.known.body) _ (λ x. IsPlaced takes u) (λ c. tests S.defs S.terms _ n takes _ (λ x. IsPlaced takes u) (λ k. λ h. (c, k))))
      (λ e. λ h. absurd (differ (sym e ∙ h)))
    where
      differ : false ≡ true → ⊥
      differ e = cc

  -- what gives a future
  pub future_node : A.context.body ≡ sort.Shared → (o : Around) → TakesFuture o → (u : Term) → Among u S.terms → (v : Term) → head S.defs u ≡ node.Async v → Known S A v → (x : nodes.Layer) → form_typing S.slots x A.context (FutureOf (S.number v))
      → GivesFuture S.defs S.slots S.terms S.number A.context o u (nodes.node_of (S.number u) x)
  future_node called o takes u m v e k x h =
      let scoped : MentionsOnly (head S.defs) A.context.parameters u = made_scoped S.defs A.context.parameters u (node.Async v) e tt (only S A v k.fine.scoped) in
      record {
        called = called;
        future = record { takes = takes; there = m; scoped = scoped; value = v; head_is = e; known = k };
        typed =
            a_node S.defs S.slots S.terms S.number S.graph A.context u (in_scope S.defs S.slots S.terms S.number S.graph A.context.parameters u m scoped) x (FutureOf (S.number v)) (FutureOf (S.number v))
            (there S u m (node.Async v) e) h (self S (S.number v));
      }

  -- ---- names

  name_use : (x : Bytes) → Use
  name_use x = found A.frame x

  module _ (n : ℕ) (x : Bytes) (b : Bound) (w : Want TypeId) (e : slice_get A.context.names (found A.frame x).index ≡ Some w) where
    name_node : Known S A b.type → w ≡ Of (S.number b.type) → Value S A b.type (at S.defs S.number b.type (F.Name (found A.frame x).index))
    name_node k h = a_value S A b.type k (F.Name (found A.frame x).index) (Of (S.number b.type), e ∙ ap (λ z. Some z) h, refl)

    name_cell : Known S A b.type → w ≡ CellOf (S.number b.type) → Value S A b.type (held S.defs S.number b.type true (at S.defs S.number b.type (F.Name (found A.frame x).index)))
    name_cell k h =
        read_cell S A b.type k (at S.defs S.number b.type (F.Name (found A.frame x).index))
        (cell_node S.defs S.slots S.terms S.number S.graph A.context b.type k (F.Name (found A.frame x).index) (CellOf (S.number b.type), e ∙ ap (λ z. Some z) h, refl))

    abbrev NameGives : Type 0
    NameGives = Gives S.defs S.slots S.terms S.number A.context A.around b.type (named S.defs S.number b.type (found A.frame x))

    name_gives : is_empty b.generics ≡ true → IsPlaced (takes_name A.around) b.type → StandsFor S.defs S.slots S.terms S.number A.context.parameters A.known.body b (found A.frame x).cell w → Among b.type S.terms → NameGives
    unfolding IsPlaced
    name_gives none pl (AValue q g c k h) m = inl (subst (λ z. Value S A b.type (held S.defs S.number b.type z (at S.defs S.number b.type (F.Name (found A.frame x).index)))) (sym c) (name_node k h))
    name_gives none pl (ACell q g c k h) m = inl (subst (λ z. Value S A b.type (held S.defs S.number b.type z (at S.defs S.number b.type (F.Name (found A.frame x).index)))) (sym c) (name_cell k h))
    name_gives none pl (AGeneric q g c k h) m = absurd (empty_no b.generics none g)
    name_gives none pl (AFuture q g c a f k h) m =
        let at_all = pl (ap (λ y. is_some (async_of y)) f) in
        inr (subst (λ z. GivesFuture S.defs S.slots S.terms S.number A.context A.around b.type (held S.defs S.number b.type z (at S.defs S.number b.type (F.Name (found A.frame x).index)))) (sym c)
        (future_node (A.fits.body_is ∙ calls_shared A.known.body at_all.0) A.around (takes_name_is A.around at_all.1) b.type m a f k (F.Name (found A.frame x).index) (FutureOf (S.number a), e ∙ ap (λ z. Some z) (h at_all.0), refl)))

  pub name_typed : (n : ℕ) (x : Bytes) → Among x A.used → (w : Option Term) → WantKnown S A w → Yields S.defs S.terms (Rule S.defs A.around (directly Other A.known) n (p.Name x) w) (Is S A w)
  name_typed n x m w k =
      given S.defs S.terms _ n (value_named A.known x) _ (Is S A w) (λ b e.
      tests S.defs S.terms _ n (is_empty b.generics) _ (Is S A w) (λ none.
      after S.defs S.terms (FuturePlaced S.defs A.known.body (takes_name A.around) n b.type) _ (λ z. IsPlaced (takes_name A.around) b.type) (Is S A w) (placed (takes_name A.around) n b.type) (λ z pl.
      let s = A.fits.names x m b e in
      has_so S A n w b.type (p.Name x) k (λ m'.
      subst (λ z. Gives S.defs S.slots S.terms S.number A.context A.around b.type z) (sym (plain S A.around A.known.labels A.frame (note n b.type) (p.Name x) (λ l. refl)))
      (name_gives n x b s.0 s.1 none pl s.2 m')))))

  -- ---- `await`

  pub await_typed : (n : ℕ) (a : Expression ℕ) → IsTypedPart S A a → (w : Option Term) → WantKnown S A w → Yields S.defs S.terms (Rule S.defs A.around (directly Other A.known) n (p.Await a) w) (Is S A w)
  await_typed n a j w k =
      tests S.defs S.terms _ n (calls A.known.body) _ (Is S A w) (λ c.
      after S.defs S.terms (Judge S.defs (directly Awaited (directly Other A.known)) a None) _ (Becomes S.defs S.slots S.terms S.number Awaited A.known.labels A.frame A.context None) (Is S A w)
      (j.0 (directly Awaited (directly Other A.known)) A.frame A.context (moved S A a j.1 Awaited) None tt) (λ b i.
      given S.defs S.terms _ n (async_of (head S.defs (type_of b))) _ (Is S A w) (λ u e. awaited c b u e i.gives)))
    where
      awaited : calls A.known.body ≡ true → (b : p.Expression Note) (u : Term) → async_of (head S.defs (type_of b)) ≡ Some u → Gives S.defs S.slots S.terms S.number A.context Awaited (type_of b) (Tree S A b)
          → Yields S.defs S.terms (Has n w u (p.Await b)) (Is S A w)
      awaited c b u e (inl h) = absurd (differ (sym h.known.fine.no_future ∙ e)) where
        differ : None ≡ Some u → ⊥
        differ e = cc
      awaited c b u e (inr h) =
          let q : Some h.future.value ≡ Some u = sym (ap async_of h.future.head_is) ∙ e in
          let same : h.future.value ≡ u = cc in
          has S A n w u (p.Await b) (λ l. refl) k (λ m.
          acts S A u (subst (λ z. Known S A z) same h.future.known) action.Await (Tree S A b ∷ []) (FutureOf (S.number u) ∷ [])
          (S.number u, A.fits.body_is ∙ calls_shared A.known.body c, refl, refl) (subst (λ z. Typed S.slots (Tree S A b) A.context (FutureOf (S.number z))) same h.typed, tt))
