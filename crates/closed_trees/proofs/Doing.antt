-- What actions take and give, in an environment.
use Rattle.std.proofs.Common.{◌≡◌, ◌⊎◌, ◌∙◌, ◌≤◌, inl, inr, ℕ, List, [], ◌∷◌, map, length, refl, sym, ap, subst}
use Rattle.mo_types.specs.declared.node.Sort.TheVariants as sort
use Rattle.mo_types.specs.declared.node.TypeId.{TypeId}
use Rattle.mo_types.specs.Graph.{Slot, head_at}
use Rattle.mo_values.specs.declared.operation.Operation.{Operation}
use Rattle.mo_values.specs.declared.operation.Operation.TheVariants as op
use Rattle.typed_tree.specs.declared.action.Action.{Action}
use Rattle.typed_tree.specs.declared.action.Action.TheVariants as action
use Rattle.typed_tree.specs.ActionTypes.{Context, ActionTyped}
use Rattle.typed_tree.specs.Language.{Exps, NoExp, AnExp}
use Rattle.typed_tree.specs.OperationTypes.{IsBool, OperationTyped}
use Rattle.typed_tree.specs.Types.{AreLawful}
use Rattle.typed_tree.specs.Wants.{Want, Of, Below}
use Rattle.closed_types.specs.Expanded.{Environment, close_in, expanded}
use Rattle.closed_types.proofs.Constants.{shareable_constant, comparable_shareable}
use Rattle.closed_types.proofs.Environments.{same_there}
use Rattle.closed_types.proofs.Expanded.{closing}
use Rattle.closed_rules.specs.ClosedWants.{close_want, close_wants}
use Rattle.closed_rules.proofs.Actions.{action_closed}
use Rattle.closed_rules.proofs.Constants.{constants, send_stays}
use Rattle.closed_rules.proofs.Equality.{compared}
use Rattle.closed_rules.proofs.Operations.{gives_at, bool_at, operation_closed}
use Rattle.mo_soundness.specs.Lawful.{IsLawful}
use Rattle.mo_soundness.specs.Running.{Around, AnswerTypes, context, Operates, Acts, EachTyped}
use Rattle.mo_soundness.proofs.Less.{typed_sub}
use Rattle.mo_soundness.proofs.Put.{action_put}
use Rattle.closed_trees.specs.Worlds.{closed_world}

module _ (types : List Slot) (first : ℕ) (past : length types ≤ first) (graph : AreLawful types) (e : Environment) where
  abbrev close : TypeId → TypeId
  close t = close_in types first e t

  -- the operands have the types that theirs come to, or two of one type one above it
  abbrev pub Rises : List (Want TypeId) → List (Want TypeId) → Type 0
  Rises ws us =
      (close_wants close ws ≡ us)
      ⊎ ((t u : TypeId) × (ws ≡ Of t ∷ Of t ∷ []) × Below (expanded types first) (close t) u × (us ≡ Of u ∷ Of u ∷ []))

  abbrev pub OperatesThere : Operation → List (Want TypeId) → Want TypeId → Type 0
  OperatesThere o ws w = (us : List (Want TypeId)) × Operates (closed_world types first) o us (close_want close w) × Rises ws us

  pub operates_there : (o : Operation) (ws : List (Want TypeId)) (w : Want TypeId) → OperationTyped (head_at types) o ws w → OperatesThere o ws w
  operates_there (op.Equal t) ws w h =
      let k = compared types first past graph t h.0 in
      let u = close_in types first [] t in
      let s = same_there types first past graph [] [] e (λ v i. absurd i) t (shareable_constant (head_at types) (λ x. (graph.nodes x).0) t (comparable_shareable (head_at types) t h.0)) in
      (Of u ∷ Of u ∷ [], (u, k.same, (k.comparable, refl, gives_at (head_at types) (expanded types first) (closing types first past e) (IsBool (head_at types)) (IsBool (expanded types first)) (bool_at (head_at types) (expanded types first) (closing types first past e)) w h.2)), inr (t, u, h.1, s.1, refl))
  operates_there (op.Unequal t) ws w h =
      let k = compared types first past graph t h.0 in
      let u = close_in types first [] t in
      let s = same_there types first past graph [] [] e (λ v i. absurd i) t (shareable_constant (head_at types) (λ x. (graph.nodes x).0) t (comparable_shareable (head_at types) t h.0)) in
      (Of u ∷ Of u ∷ [], (u, k.same, (k.comparable, refl, gives_at (head_at types) (expanded types first) (closing types first past e) (IsBool (head_at types)) (IsBool (expanded types first)) (bool_at (head_at types) (expanded types first) (closing types first past e)) w h.2)), inr (t, u, h.1, s.1, refl))
  operates_there o ws w h = (close_wants close ws, operation_closed (head_at types) (expanded types first) (closing types first past e) o ws w tt h, inl refl)

  -- an action looks at no name
  abbrev ActsThere : Context → List (Want TypeId) → Action → List (Want TypeId) → Want TypeId → Type 0
  ActsThere x ns a ws w = (us : List (Want TypeId)) × Acts (closed_world types first) (context x.body (record { names = ns; labels = map close x.labels })) a us (close_want close w) × Rises ws us

  shared_there : (x : Context) (ps rs : List TypeId) (ws : List (Want TypeId)) (w : Want TypeId) → (x.body ≡ sort.Local) ⊎ (e ≡ []) → ActionTyped (head_at types) x (action.Send ps rs) ws w → e ≡ []
  shared_there x ps rs ws w (inl l) h = absurd (let z : sort.Local ≡ sort.Shared = sym l ∙ h.2 in cc)
  shared_there x ps rs ws w (inr q) h = q

  sends : (x : Context) (ns : List (Want TypeId)) (ps rs : List TypeId) (ws : List (Want TypeId)) (w : Want TypeId) → e ≡ [] → ActionTyped (head_at types) x (action.Send ps rs) ws w → ActsThere x ns (action.Send ps rs) ws w
  sends x ns ps rs ws w q h =
      let k = send_stays types first past graph x ps rs ws w h in
      let m = constants types first past graph h.0 ps rs h.3 in
      subst (λ (d : Environment). (us : List (Want TypeId)) × Acts (closed_world types first) (context x.body (record { names = ns; labels = map (close_in types first d) x.labels })) (action.Send ps rs) us (close_want (close_in types first d) w)
      × ((close_wants (close_in types first d) ws ≡ us) ⊎ ((t u : TypeId) × (ws ≡ Of t ∷ Of t ∷ []) × Below (expanded types first) (close_in types first d t) u × (us ≡ Of u ∷ Of u ∷ [])))) (sym q)
      (close_wants (close_in types first []) ws, (m, k), inl refl)

  pub acts_there : (x : Context) (ns : List (Want TypeId)) (a : Action) (ws : List (Want TypeId)) (w : Want TypeId) → (x.body ≡ sort.Local) ⊎ (e ≡ []) → ActionTyped (head_at types) x a ws w → ActsThere x ns a ws w
  acts_there x ns (action.Operate o) ws w s h = operates_there o ws w h
  acts_there x ns (action.Send ps rs) ws w s h = sends x ns ps rs ws w (shared_there x ps rs ws w s h) h
  acts_there x ns a ws w s h =
      (close_wants close ws, action_put (closed_world types first) a x.body (close_wants close x.names) ns (map close x.labels) (close_wants close ws) (close_want close w) (action_closed (head_at types) (expanded types first) (closing types first past e) x a ws w tt h), inl refl)

  module _ (lawful : IsLawful (expanded types first)) (answers : AnswerTypes) (kinds : List TypeId) where
    both_rise : (c : Around) (es : Exps) (t u : TypeId) → Below (expanded types first) t u → EachTyped (closed_world types first) answers kinds c es (Of t ∷ Of t ∷ []) → EachTyped (closed_world types first) answers kinds c es (Of u ∷ Of u ∷ [])
    both_rise c NoExp t u b h = absurd h
    both_rise c (AnExp x NoExp) t u b h = absurd h.1
    both_rise c (AnExp x (AnExp y NoExp)) t u b h = (typed_sub (closed_world types first) lawful answers kinds c x (Of t) (Of u) h.0 b, (typed_sub (closed_world types first) lawful answers kinds c y (Of t) (Of u) h.1.0 b, tt))
    both_rise c (AnExp x (AnExp y (AnExp z es))) t u b h = absurd h.1.1

    pub each_rises : (c : Around) (es : Exps) (ws us : List (Want TypeId)) → Rises ws us → EachTyped (closed_world types first) answers kinds c es (close_wants close ws) → EachTyped (closed_world types first) answers kinds c es us
    each_rises c es ws us (inl q) h = subst (EachTyped (closed_world types first) answers kinds c es) q h
    each_rises c es ws us (inr r) h =
        subst (EachTyped (closed_world types first) answers kinds c es) (sym r.4)
        (both_rise c es (close r.0) r.1 r.3 (subst (EachTyped (closed_world types first) answers kinds c es) (ap (close_wants close) r.2) h))
