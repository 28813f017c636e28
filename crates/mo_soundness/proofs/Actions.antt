-- Each action on values that fit.
use Rattle.std.proofs.Common.{◌≡◌, ◌≢◌, ◌⊎◌, inl, inr, ℕ, List, [], ◌∷◌, map, Bool, true, false, true≢false, Option, Some, None, refl, sym, ap, ◌∙◌, subst, slice_get}
use Rattle.mo_types.specs.declared.datum.Datum.TheVariants as part
use Rattle.mo_types.specs.declared.node.Node.{Node}
use Rattle.mo_types.specs.declared.node.Node.TheVariants as node
use Rattle.mo_types.specs.declared.node.Sort.{Sort}
use Rattle.mo_types.specs.declared.node.Sort.TheVariants as sort
use Rattle.mo_types.specs.declared.node.TypeId.{TypeId}
use Rattle.mo_types.specs.Heads.{opt_of}
use Rattle.mo_types.specs.Sub.{IsSomething}
use Rattle.mo_values.specs.declared.operation.Operation.TheVariants as op
use Rattle.mo_values.specs.Costs.{weighing, putting, operation_cost}
use Rattle.mo_values.specs.Operations.{operate}
use Rattle.mo_values.specs.Shapes.{Leaf, Present, Array, Error}
use Rattle.typed_tree.specs.declared.action.Action.{Action}
use Rattle.typed_tree.specs.declared.action.Action.TheVariants as action
use Rattle.typed_tree.specs.declared.action.Member.{Member}
use Rattle.typed_tree.specs.Language.{Value, Made, Function, BuiltIn, NoValue, AValue, null}
use Rattle.typed_tree.specs.MemberTypes.{IsUnit, IsText, MemberTyped}
use Rattle.typed_tree.specs.Opening.{shape_of, shapes_list, BuiltInCode}
use Rattle.typed_tree.specs.Wants.{Want, Of, CellOf, FutureOf}
use Rattle.mo_meaning.specs.Actions.{act, printed, sent}
use Rattle.mo_meaning.specs.Acts.{Store, Given, Act}
use Rattle.mo_meaning.specs.Jumps.{unwrapped}
use Rattle.mo_meaning.specs.Places.{values_of_list}
use Rattle.mo_soundness.specs.Keeps.{closed, HasEach, Keeps, Suits}
use Rattle.mo_soundness.specs.Lawful.{IsLawful}
use Rattle.mo_soundness.specs.Running.{context, in_sort, AnswerTypes, Acts, Callable, HasValue, HaveValues, FunctionOf, StoreTyped}
use Rattle.mo_soundness.specs.Worlds.{World}
use Rattle.mo_soundness.proofs.Calls.{member_type, MembersKeep, call_keeps, await_keeps, send_keeps}
use Rattle.mo_soundness.proofs.Cells.{gives, new_keeps, read_keeps, write_keeps, answer_keeps, element_keeps}
use Rattle.mo_soundness.proofs.Found.{At, opened, made_at, unit_fits, error_of}
use Rattle.mo_soundness.proofs.More.{longer_self}
use Rattle.mo_soundness.proofs.Values.{operates}
use Rattle.mo_soundness.proofs.Wanted.{reflexive}

-- the body of a shared function is one in which calls may be made
calls_may : (s : Sort) (b : Bool) → in_sort s b ≡ sort.Shared → b ≡ true
calls_may s true h = refl
calls_may sort.Local false h = absurd (let z : sort.Local ≡ sort.Shared = h in cc)
calls_may sort.Shared false h = absurd (let z : sort.Local ≡ sort.Shared = h in cc)
calls_may sort.Query false h = absurd (let z : sort.Local ≡ sort.Shared = h in cc)

-- that of a function that is no shared one is one in which nothing is thrown
throws_may : (s : Sort) (b : Bool) → in_sort s b ≢ sort.Local → b ≡ true
throws_may s true h = refl
throws_may sort.Local false h = absurd (h refl)
throws_may sort.Shared false h = absurd (h refl)
throws_may sort.Query false h = absurd (h refl)

module _ (world : World) (lawful : IsLawful world.head) (answers : AnswerTypes) (kinds : List TypeId) where
  abbrev Has : Want TypeId → Value → Type 0
  Has = HasValue world answers kinds

  abbrev Each : List (Want TypeId) → List Value → Type 0
  Each = HasEach world answers kinds

  abbrev Holds : Store → Type 0
  Holds store = StoreTyped world answers kinds store kinds

  abbrev K : List TypeId → Want TypeId → Act → Type 0
  K = Keeps world answers kinds

  -- the first operand and the others
  first : (w : Want TypeId) (ws us : List (Want TypeId)) (vs : List Value) → us ≡ w ∷ ws → Each us vs → (v : Value) × (others : List Value) × (v ∷ others ≡ vs) × Has w v × Each ws others
  first w ws us vs e h = by vs (subst (λ us. Each us vs) e h)
    where
      by : (vs : List Value) → Each (w ∷ ws) vs → (v : Value) × (others : List Value) × (v ∷ others ≡ vs) × Has w v × Each ws others
      by [] k = absurd k
      by (v ∷ others) k = (v, others, refl, k.0, k.1)

  none : (vs : List Value) → Each [] vs → [] ≡ vs
  none [] h = refl
  none (v ∷ vs) h = absurd h

  one : (w : Want TypeId) (us : List (Want TypeId)) (vs : List Value) → us ≡ w ∷ [] → Each us vs → (v : Value) × (v ∷ [] ≡ vs) × Has w v
  one w us vs e h = let f = first w [] us vs e h in (f.0, ap (λ x. f.0 ∷ x) (none f.1 f.4) ∙ f.2, f.3)

  two : (w u : Want TypeId) (us : List (Want TypeId)) (vs : List Value) → us ≡ w ∷ u ∷ [] → Each us vs → (v x : Value) × (v ∷ x ∷ [] ≡ vs) × Has w v × Has u x
  two w u us vs e h = let f = first w (u ∷ []) us vs e h in let g = one u (u ∷ []) f.1 refl f.4 in (f.0, g.0, ap (λ x. f.0 ∷ x) g.1 ∙ f.2, f.3, g.2)

  three : (w u z : Want TypeId) (us : List (Want TypeId)) (vs : List Value) → us ≡ w ∷ u ∷ z ∷ [] → Each us vs → (v x y : Value) × (v ∷ x ∷ y ∷ [] ≡ vs) × Has w v × Has u x × Has z y
  three w u z us vs e h = let f = first w (u ∷ z ∷ []) us vs e h in let g = two u z (u ∷ z ∷ []) f.1 refl f.4 in (f.0, g.0, g.1, ap (λ x. f.0 ∷ x) g.2 ∙ f.2, f.3, g.3, g.4)

  -- ---- values of one form of type

  print_keeps : (ls : List TypeId) (store : Store) (t u : TypeId) (v : Value) → Holds store → IsText world.head t → IsUnit world.head u → Has (Of t) v → K ls (Of u) (printed store v)
  print_keeps ls store t u v s q iu h = by v (opened world answers kinds t node.Text v q h)
    where
      by : (v : Value) → At world answers kinds node.Text t v → K ls (Of u) (printed store v)
      by (Made (Leaf (part.Text x)) NoValue) k = (k.0.1, unit_fits world answers kinds u iu)
      by (Made (Leaf (part.Text x)) (AValue v vs)) k = absurd k.1
      by (Made (Leaf p) inner) k = absurd k.0.1
      by (Made Array inner) (inl r, k) = absurd r
      by (Made Array inner) (inr r, k) = absurd r
      by (Made (Error c m) inner) k = absurd (true≢false (sym k.0.0))
      by (Made h inner) k = absurd k.0
      by (Function g n) k = absurd k
      by (BuiltIn m holds) k = absurd k

  null_fits : (t : TypeId) (x : Node TypeId) → world.head t ≡ x → IsSomething (opt_of x) → Has (Of t) null
  null_fits t (node.Opt a) q i = made_at world answers kinds t (node.Opt a) (Leaf part.Null) NoValue q ((tt, tt), tt)
  null_fits t x q i = absurd i

  unwrap_keeps : (ls : List TypeId) (store : Store) (l : ℕ) (o t u : TypeId) (v : Value) → Holds store → slice_get ls l ≡ Some o → IsSomething (opt_of (world.head o)) → world.head t ≡ node.Opt u → Has (Of t) v → K ls (Of u) (unwrapped store l v)
  unwrap_keeps ls store l o t u v s g n q h = by v (opened world answers kinds t (node.Opt u) v q h)
    where
      by : (v : Value) → At world answers kinds (node.Opt u) t v → K ls (Of u) (unwrapped store l v)
      by (Made (Leaf part.Null) NoValue) k = (kinds, longer_self kinds, s, inl (Of o ∷ [], inr (o, g, refl), (null_fits o (world.head o) refl n, tt)))
      by (Made (Leaf part.Null) (AValue v vs)) k = absurd k.1
      by (Made (Leaf part.Present) inner) k = absurd k.0.0
      by (Made (Leaf p) inner) k = absurd k.0.1
      by (Made Present (AValue v NoValue)) k = gives world lawful answers kinds ls (Of u) store v (weighing 1) s k.1.0
      by (Made Present NoValue) k = absurd k.1
      by (Made Present (AValue v (AValue w vs))) k = absurd k.1.1
      by (Made Array inner) (inl r, k) = absurd r
      by (Made Array inner) (inr r, k) = absurd r
      by (Made (Error c m) inner) k = absurd (true≢false (sym k.0.0))
      by (Made h inner) k = absurd k.0
      by (Function g n) k = absurd k
      by (BuiltIn m holds) k = absurd k

  -- a built-in function that holds values of their types
  held : (ws : List (Want TypeId)) (vs : List Value) → Each ws vs → HaveValues world answers kinds ws (values_of_list vs)
  held [] [] h = tt
  held [] (v ∷ vs) h = absurd h
  held (w ∷ ws) [] h = absurd h
  held (w ∷ ws) (v ∷ vs) h = (h.0, held ws vs h.1)

  member_fits : (m : Member) (t : TypeId) (ws : List (Want TypeId)) (vs : List Value) → MemberTyped world.head m ws (world.head t) → Each ws vs → Has (Of t) (BuiltIn m (values_of_list vs))
  member_fits m t ws vs h i =
      let k = member_type m world.head ws (world.head t) h in
      subst (λ x. Callable x (FunctionOf world answers kinds (BuiltInCode m (values_of_list vs)) t)) (sym k.2) (ws, t, h, held ws vs i, reflexive world.head lawful t)

  module _ (members : MembersKeep world lawful answers kinds) where
    pub acts_keep : (ls : List TypeId) (store : Store) (given : Option Given) (a : Action) (s : Sort) (ws : List (Want TypeId)) (g : Want TypeId) (vs : List Value) → Holds store → Acts world (context (in_sort s answers.may_call) (closed ls)) a ws g → Each ws vs → Suits world answers kinds given (act world.meant None store a vs) → K ls g (act world.meant given store a vs)
    acts_keep ls store given (action.Operate o) s ws g vs st t h i =
        answer_keeps world lawful answers kinds ls g store (operation_cost o (shapes_list vs) (operate world.meant o (shapes_list vs))) (operate world.meant o (shapes_list vs)) st (operates world answers kinds o ws g vs t h)
    acts_keep ls store given (action.BuiltIn m) s ws g vs st t h i =
        subst (λ g. K ls g (act world.meant given store (action.BuiltIn m) vs)) (sym t.1) (gives world lawful answers kinds ls (Of t.0) store (BuiltIn m (values_of_list vs)) (putting (shapes_list vs)) st (member_fits m t.0 ws vs t.2 h))
    acts_keep ls store given action.New s ws g vs st t h i =
        let v = one (Of t.0) ws vs t.1 h in
        subst (λ g. K ls g (act world.meant given store action.New vs)) (sym t.2) (subst (λ vs. K ls (CellOf t.0) (act world.meant given store action.New vs)) v.1 (new_keeps world lawful answers kinds ls store t.0 v.0 st v.2))
    acts_keep ls store given action.Read s ws g vs st t h i =
        let v = one (CellOf t.0) ws vs t.1 h in
        subst (λ g. K ls g (act world.meant given store action.Read vs)) (sym t.2) (subst (λ vs. K ls (Of t.0) (act world.meant given store action.Read vs)) v.1 (read_keeps world lawful answers kinds ls store t.0 v.0 st v.2))
    acts_keep ls store given action.Write s ws g vs st t h i =
        let v = two (CellOf t.0) (Of t.0) ws vs t.1 h in
        subst (λ g. K ls g (act world.meant given store action.Write vs)) (sym t.2.1) (subst (λ vs. K ls (Of t.2.0) (act world.meant given store action.Write vs)) v.2 (write_keeps world lawful answers kinds ls store t.0 t.2.0 v.0 v.1 st t.2.2 v.3 v.4))
    acts_keep ls store given action.WriteElement s ws g vs st t h i =
        let v = three (Of t.0) (Of t.1) (Of t.2) ws vs t.3 h in
        subst (λ g. K ls g (act world.meant given store action.WriteElement vs)) (sym t.6.1)
        (subst (λ vs. K ls (Of t.6.0) (act world.meant given store action.WriteElement vs)) v.3
        (element_keeps world lawful answers kinds ls store t.2 t.6.0 (operate world.meant op.Element (shape_of v.0 ∷ shape_of v.1 ∷ [])) v.2 st t.6.2
        (operates world answers kinds op.Element (Of t.0 ∷ Of t.1 ∷ []) (CellOf t.2) (v.0 ∷ v.1 ∷ []) (t.0, t.1, t.2, refl, t.5, inr (t.4, refl)) (v.4, (v.5, tt))) v.6))
    acts_keep ls store given action.Print s ws g vs st t h i =
        let v = one (Of t.0.0) ws vs t.0.1 h in
        subst (λ g. K ls g (act world.meant given store action.Print vs)) (sym t.1.1) (subst (λ vs. K ls (Of t.1.0) (act world.meant given store action.Print vs)) v.1 (print_keeps ls store t.0.0 t.1.0 v.0 st t.0.2 t.1.2 v.2))
    acts_keep ls store given action.Throw s ws g vs st t h i =
        let v = one (Of t.1.0) ws vs t.1.1 h in
        subst (λ vs. K ls g (act world.meant given store action.Throw vs)) v.1 (error_of world answers kinds t.1.0 v.0 t.1.2 v.2, throws_may s answers.may_call t.0)
    acts_keep ls store given action.Call s ws g vs st t h i =
        let v = first (Of t.0) (map (λ t. Of t) t.2) ws vs t.4 h in
        subst (λ g. K ls g (act world.meant given store action.Call vs)) (sym t.5) (subst (λ vs. K ls (Of t.1) (act world.meant given store action.Call vs)) v.2 (call_keeps world lawful answers kinds members ls store t.0 t.1 t.2 v.0 v.1 st t.3 v.3 v.4))
    acts_keep ls store given (action.Send ps rs) s ws g vs st t h i =
        let v = first (Of t.1.0) (map (λ t. Of t) ps) ws vs t.1.4 h in
        let j = subst (λ vs. Suits world answers kinds given (act world.meant None store (action.Send ps rs) vs)) (sym v.2) i in
        subst (λ g. K ls g (act world.meant given store (action.Send ps rs) vs)) (sym t.1.6) (subst (λ vs. K ls (FutureOf t.1.1) (act world.meant given store (action.Send ps rs) vs)) v.2 (by t.1.3 v.0 v.1 v.3 v.4 j))
      where
        by : ((world.head t.1.0 ≡ node.Func sort.Shared ps rs) ⊎ (world.head t.1.0 ≡ node.Func sort.Query ps rs)) → (v : Value) (us : List Value) → Has (Of t.1.0) v → Each (map (λ t. Of t) ps) us → Suits world answers kinds given (sent store None ps rs v us) → K ls (FutureOf t.1.1) (sent store given ps rs v us)
        by (inl e) v us k l j = send_keeps world lawful answers kinds ls store given t.1.0 t.1.1 sort.Shared ps rs v us st (calls_may s answers.may_call t.1.2) (λ z. cc) e t.1.5 t.0 k l j
        by (inr e) v us k l j = send_keeps world lawful answers kinds ls store given t.1.0 t.1.1 sort.Query ps rs v us st (calls_may s answers.may_call t.1.2) (λ z. cc) e t.1.5 t.0 k l j
    acts_keep ls store given action.Await s ws g vs st t h i =
        let v = one (FutureOf t.0) ws vs t.2 h in
        let j = subst (λ vs. Suits world answers kinds given (act world.meant None store action.Await vs)) (sym v.1) i in
        subst (λ g. K ls g (act world.meant given store action.Await vs)) (sym t.3) (subst (λ vs. K ls (Of t.0) (act world.meant given store action.Await vs)) v.1 (await_keeps world lawful answers kinds ls store given t.0 v.0 st (calls_may s answers.may_call t.1) v.2 j))
    acts_keep ls store given (action.Break l) s ws g vs st t h i =
        let v = one (Of t.0) ws vs t.2 h in
        subst (λ vs. K ls g (act world.meant given store (action.Break l) vs)) v.1 (t.0, t.1, v.2)
    acts_keep ls store given (action.Unwrap l) s ws g vs st t h i =
        let v = one (Of t.1) ws vs t.5 h in
        subst (λ g. K ls g (act world.meant given store (action.Unwrap l) vs)) (sym t.7) (subst (λ vs. K ls (Of t.2) (act world.meant given store (action.Unwrap l) vs)) v.1 (unwrap_keeps ls store l t.0 t.1 t.2 v.0 st t.3 t.4 t.6 v.2))
