-- Calls of functions.
use Rattle.std.proofs.Common.{◌≡◌, ◌≢◌, ◌⊎◌, inl, inr, ℕ, List, [], ◌∷◌, ◌++◌, length, map, Option, refl, sym, ap, ◌∙◌, subst, arith}
use Rattle.std.specs.Prelude.{is_some, nat_eq}
use Rattle.mo_types.specs.declared.node.Node.TheVariants as node
use Rattle.mo_types.specs.declared.node.Sort.{Sort}
use Rattle.mo_types.specs.declared.node.Sort.TheVariants as sort
use Rattle.mo_types.specs.Graph.{head_at}
use Rattle.mo_types.specs.Heads.{async_of, func_of}
use Rattle.subtype_laws.specs.Reached.{Among}
use Rattle.typed_tree.specs.declared.action.Action.TheVariants as action
use Rattle.typed_tree.specs.declared.expression.Form.TheOpen as F
use Rattle.typed_tree.specs.declared.expression.TypedExpression.{TypedExpression}
use Rattle.typed_tree.specs.ActionTypes.{ResultOf, of_each}
use Rattle.typed_tree.specs.Instances.{types_in}
use Rattle.typed_tree.specs.Types.{IsLawfulNode}
use Rattle.typed_tree.specs.Typing.{EachGives, Typed}
use Rattle.typed_tree.specs.Wants.{Of}
use Rattle.typing_rules.specs.declared.condition.Condition.TheVariants as condition
use Rattle.typing_rules.specs.AbstractSyntax.{Expression, Expressions}
use Rattle.typing_rules.specs.AbstractSyntax as p
use Rattle.typing_rules.specs.AsyncPlaces.{Other, takes_call, FuturePlaced}
use Rattle.typing_rules.specs.Calls.{called}
use Rattle.typing_rules.specs.Contexts.{directly}
use Rattle.typing_rules.specs.Ends.{Has}
use Rattle.typing_rules.specs.Expressions.{JudgeEach, some_each}
use Rattle.typing_rules.specs.Heads.{head, members_head, result}
use Rattle.typing_rules.specs.Judgements.{Part, Given, Tests}
use Rattle.typing_rules.specs.Terms.{Term, unlisted}
use Rattle.typing_rules.specs.Terms as t
use Rattle.typing_rules.specs.TypedTrees.{Note, note, type_of, count}
use Rattle.desugaring.specs.Expressions.{call_of}
use Rattle.desugaring.specs.Nodes as nodes
use Rattle.desugaring_laws.specs.Yields.{Yields}
use Rattle.desugaring_laws.proofs.Graph.{parts_there}
use Rattle.desugaring_laws.proofs.HeadForms.{is_function}
use Rattle.desugaring_laws.proofs.Yielding.{given, tests, part as after}
use Rattle.expression_laws.specs.Results.{TakesFuture, Gives}
use Rattle.expression_laws.proofs.Ending.{Setting, Place, there, inside, Known, WantKnown, Is, Tree, Value, plain, has_so, acts}
use Rattle.expression_laws.proofs.Futures.{IsPlaced, placed, takes_call_is, calls_shared, future_node}
use Rattle.expression_laws.proofs.Heads.{async_head, made_fine, tuple_head, listed_back}
use Rattle.expression_laws.proofs.Listed.{EachTyping, EachWanted, each_wanted, Trees, same_number, map_twice}
use Rattle.expression_laws.proofs.Promoting.{promotes}

one_length : {X Y : Type 0} (f : X → Y) (xs : List X) → length (map f xs) ≡ 1 → (x : X) × (xs ≡ x ∷ [])
one_length f [] e = cc
one_length f (x ∷ []) e = (x, refl)
one_length f (x ∷ y ∷ xs) e = absurd (omega arith)

shared_local : sort.Shared ≡ sort.Local → ⊥
shared_local e = cc

query_local : sort.Query ≡ sort.Local → ⊥
query_local e = cc

module _ (S : Setting) (A : Place S) where
  abbrev vs : List ℕ
  vs = A.context.parameters

  -- a function that is no shared one has one result
  pub one_result : (v : Term) → Known S A v → (ps rs : List Term) → head S.defs v ≡ node.Func sort.Local ps rs → (r : Term) × (rs ≡ r ∷ [])
  one_result v k ps rs e =
      one_length S.number rs
      (subst (λ y. IsLawfulNode (head_at S.slots) y) (there S v k.there (node.Func sort.Local ps rs) e) (S.graph.lawful.nodes (S.number v)).0)

  among_results : (ps rs : List Term) (r : Term) → Among r rs → Among r (ps ++ rs)
  among_results [] rs r m = m
  among_results (p' ∷ ps) rs r m = inr (among_results ps rs r m)

  among_parameters : (ps rs : List Term) (r : Term) → Among r ps → Among r (ps ++ rs)
  among_parameters [] rs r m = absurd m
  among_parameters (p' ∷ ps) rs r (inl e) = inl e
  among_parameters (p' ∷ ps) rs r (inr m) = inr (among_parameters ps rs r m)

  -- the parameters of what is called
  pub parameters_known : (v : Term) → Known S A v → (s : Sort) (ps rs : List Term) → head S.defs v ≡ node.Func s ps rs → (u : Term) → Among u ps → Known S A u
  parameters_known v k s ps rs e u m = inside S vs v u k (node.Func s ps rs) e (among_parameters ps rs u m)

  pub results_scoped : (v : Term) → Known S A v → (s : Sort) (ps rs : List Term) → head S.defs v ≡ node.Func s ps rs → (u : Term) → Among u rs → Known S A u
  results_scoped v k s ps rs e u m = inside S vs v u k (node.Func s ps rs) e (among_results ps rs u m)

  -- what a message answers, as one type
  result_known : (rs : List Term) → ((u : Term) → Among u rs → Known S A u) → Among (result rs) S.terms → Known S A (result rs)
  result_known [] k m = record { there = m; fine = made_fine S.defs vs (t.Tuple t.Nil) (node.Tuple []) (tuple_head S.defs t.Nil) tt refl (λ u n. absurd n) }
  result_known (r ∷ []) k m = k r (inl refl)
  result_known (r ∷ s ∷ rs) k m = record {
    there = m;
    fine =
        made_fine S.defs vs (t.Tuple (unlisted (r ∷ s ∷ rs))) (node.Tuple (r ∷ s ∷ rs)) (tuple_head S.defs (unlisted (r ∷ s ∷ rs)) ∙ ap (λ l. node.Tuple l) (listed_back (r ∷ s ∷ rs))) tt refl
        (λ u n. (k u n).fine.scoped);
  }

  result_of : (rs : List Term) → Among (result rs) S.terms → ResultOf (head_at S.slots) (map S.number rs) (S.number (result rs))
  result_of [] m = there S (t.Tuple t.Nil) m (node.Tuple []) (tuple_head S.defs t.Nil)
  result_of (r ∷ []) m = refl
  result_of (r ∷ s ∷ rs) m =
      there S (t.Tuple (unlisted (r ∷ s ∷ rs))) m (node.Tuple (r ∷ s ∷ rs)) (tuple_head S.defs (unlisted (r ∷ s ∷ rs)) ∙ ap (λ l. node.Tuple l) (listed_back (r ∷ s ∷ rs)))

  -- a call of a shared function
  sent : (s : Sort) → s ≢ sort.Local → (ps rs : List Term) (v : Term) → Known S A v → head S.defs v ≡ node.Func s ps rs → TakesFuture A.around → A.context.body ≡ sort.Shared → (x : TypedExpression) → Typed S.slots x A.context (Of (S.number v))
      → (es : List TypedExpression) → EachGives (Typed S.slots) A.context es (of_each (head_at S.slots) (map S.number ps)) → Among (t.Async (result rs)) S.terms
      → Gives S.defs S.slots S.terms S.number A.context A.around (t.Async (result rs)) (nodes.acts S.defs S.number (t.Async (result rs)) (action.Send (map S.number ps) (map S.number rs)) (x ∷ es))
  sent s shared ps rs v k e takes body x hx es hes m =
      let r = result rs in
      let mr : Among r S.terms = parts_there S.defs S.slots S.terms S.number S.graph (t.Async r) r m (subst (λ y. Among r (types_in y)) (sym (async_head S.defs r)) (inl refl)) in
      inr (future_node S A body A.around takes (t.Async r) m r (async_head S.defs r) (result_known rs (results_scoped v k s ps rs e) mr) (F.Do (action.Send (map S.number ps) (map S.number rs)) (x ∷ es))
      (Of (S.number v) ∷ of_each (head_at S.slots) (map S.number ps), (S.number v, S.number r, body, by s shared (there S v k.there (node.Func s ps rs) e), refl, result_of rs mr, refl), (hx, hes)))
    where
      by : (s : Sort) → s ≢ sort.Local → head_at S.slots (S.number v) ≡ node.Func s (map S.number ps) (map S.number rs)
          → (head_at S.slots (S.number v) ≡ node.Func sort.Shared (map S.number ps) (map S.number rs)) ⊎ (head_at S.slots (S.number v) ≡ node.Func sort.Query (map S.number ps) (map S.number rs))
      by sort.Local n h = absurd (n refl)
      by sort.Shared n h = inl h
      by sort.Query n h = inr h

  -- a call by how its function is called
  call_gives : (s : Sort) (ps rs : List Term) (v : Term) → Known S A v → head S.defs v ≡ node.Func s ps rs → IsPlaced S A (takes_call A.around) (called s rs) → (x : TypedExpression) → Typed S.slots x A.context (Of (S.number v))
      → (es : List TypedExpression) → EachGives (Typed S.slots) A.context es (of_each (head_at S.slots) (map S.number ps)) → Among (called s rs) S.terms
      → Gives S.defs S.slots S.terms S.number A.context A.around (called s rs) (call_of S.defs S.number (called s rs) (node.Func s ps rs) (x ∷ es))
  unfolding IsPlaced
  call_gives sort.Local ps rs v k e pl x hx es hes m =
      let r = one_result v k ps rs e in
      let kr = results_scoped v k sort.Local ps rs e r.0 (subst (λ l. Among r.0 l) (sym r.1) (inl refl)) in
      inl (subst (λ l. Value S A (result l) (nodes.acts S.defs S.number (result l) action.Call (x ∷ es))) (sym r.1)
      (acts S A r.0 kr action.Call (x ∷ es) (Of (S.number v) ∷ of_each (head_at S.slots) (map S.number ps))
      (S.number v, S.number r.0, map S.number ps, there S v k.there (node.Func sort.Local ps (r.0 ∷ [])) (e ∙ ap (λ l. node.Func sort.Local ps l) r.1), refl, refl) (hx, hes)))
  call_gives sort.Shared ps rs v k e pl x hx es hes m =
      let q = pl (ap (λ y. is_some (async_of y)) (async_head S.defs (result rs))) in
      sent sort.Shared (λ h. absurd (shared_local h)) ps rs v k e (takes_call_is A.around q.1) (A.fits.body_is ∙ calls_shared A.known.body q.0) x hx es hes m
  call_gives sort.Query ps rs v k e pl x hx es hes m =
      let q = pl (ap (λ y. is_some (async_of y)) (async_head S.defs (result rs))) in
      sent sort.Query (λ h. absurd (query_local h)) ps rs v k e (takes_call_is A.around q.1) (A.fits.body_is ∙ calls_shared A.known.body q.0) x hx es hes m

  -- what follows where it is known what is called
  pub called_typed : (n : ℕ) (g : p.Expression Note) → Value S A (type_of g) (Tree S A g) → (types : Option (List p.TypeNode)) (arguments : Expressions ℕ) → EachTyping S A arguments → (w : Option Term) → WantKnown S A w
      → Yields S.defs S.terms
      (Given condition.NotFunction n (func_of (members_head S.defs (type_of g))) (λ q.
      Part (FuturePlaced S.defs A.known.body (takes_call A.around) n (called q.0 q.2)) (λ z.
      Tests condition.ArgumentCount n (nat_eq (length q.1) (count arguments)) (Part (JudgeEach S.defs (directly Other A.known) arguments (some_each q.1)) (λ es. Has n w (called q.0 q.2) (p.Call g types es))))))
      (Is S A w)
  called_typed n g hg types arguments j w k =
      given S.defs S.terms condition.NotFunction n (func_of (members_head S.defs (type_of g))) _ (Is S A w) (λ q e.
      let r = promotes S A (type_of g) (Tree S A g) hg in
      let h : members_head S.defs (type_of g) ≡ node.Func q.0 q.1 q.2 = is_function (members_head S.defs (type_of g)) q e in
      after S.defs S.terms (FuturePlaced S.defs A.known.body (takes_call A.around) n (called q.0 q.2)) _ (λ z. IsPlaced S A (takes_call A.around) (called q.0 q.2)) (Is S A w) (placed S A (takes_call A.around) n (called q.0 q.2)) (λ z pl.
      tests S.defs S.terms condition.ArgumentCount n (nat_eq (length q.1) (count arguments)) _ (Is S A w) (λ many.
      after S.defs S.terms (JudgeEach S.defs (directly Other A.known) arguments (some_each q.1)) _ (EachWanted S A q.1) (Is S A w)
      (each_wanted S A arguments j q.1 (parameters_known r.type r.known q.0 q.1 q.2 (r.head_is ∙ h)) (same_number (length q.1) (count arguments) many)) (λ es i.
      has_so S A n w (called q.0 q.2) (p.Call g types es) k (λ m.
      subst (λ y. Gives S.defs S.slots S.terms S.number A.context A.around (called q.0 q.2) y) (sym (plain S A.around A.known.labels A.frame (note n (called q.0 q.2)) (p.Call g types es) (λ l. refl)))
      (subst (λ y. Gives S.defs S.slots S.terms S.number A.context A.around (called q.0 q.2) (call_of S.defs S.number (called q.0 q.2) y (Tree S A g ∷ Trees S A es))) (sym h)
      (call_gives q.0 q.1 q.2 r.type r.known (r.head_is ∙ h) pl (Tree S A g) r.typed (Trees S A es) (subst (λ ws. EachGives (Typed S.slots) A.context (Trees S A es) ws) (map_twice S A q.1) i) m)))))))
