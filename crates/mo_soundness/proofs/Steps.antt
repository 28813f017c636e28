-- One reduction of a typed expression: it is never stuck, and what comes of it is typed, also where it is given the answer to a call.
use Rattle.std.proofs.Common.{◌≡◌, ◌⊎◌, inl, inr, ℕ, zero, suc, ◌+◌, List, [], ◌∷◌, ◌++◌, Bool, true, false, Option, Some, None, refl, sym, ap, subst, slice_get, arith}
use Rattle.std.specs.Prelude.{codes}
use Rattle.mo_types.specs.declared.datum.Datum.TheVariants as part
use Rattle.mo_types.specs.declared.node.Node.TheVariants as node
use Rattle.mo_types.specs.declared.node.Sort.TheVariants as sort
use Rattle.mo_types.specs.declared.node.TypeId.{TypeId}
use Rattle.mo_types.specs.Values.{IsPartOf}
use Rattle.mo_values.specs.declared.operation.Operation.TheVariants as op
use Rattle.mo_num.specs.declared.kind.Kind.TheVariants as kind
use Rattle.mo_values.specs.Costs.{Cost, weighing, operation_cost}
use Rattle.mo_values.specs.Operations.{in_bounds}
use Rattle.mo_values.specs.Shapes.{Array, Shape}
use Rattle.mo_values.specs.Views as views
use Rattle.typed_tree.specs.declared.action.Action.{Action}
use Rattle.typed_tree.specs.declared.action.Action.TheVariants as action
use Rattle.typed_tree.specs.ActionTypes.{IsError}
use Rattle.typed_tree.specs.Has.{field_want, by_mutability}
use Rattle.typed_tree.specs.Language.{Value, Made, NoValue, Exp, Exps, Cases, Functions, Val, Name, Do, If, Switch, Group, Frame, Label, While, Repeat, For, Try, Update, NoExp, AnExp, NoCase, ACase, NoFunction, AFunction, leaf, unit, then}
use Rattle.typed_tree.specs.MemberTypes.{IsUnit, IsNumber}
use Rattle.typed_tree.specs.Opening.{Code, shape_of, value_of, shapes_list, slots_of}
use Rattle.typed_tree.specs.OperationTypes.{IsBool}
use Rattle.typed_tree.specs.Patterns.{Pat, matches}
use Rattle.typed_tree.specs.Substitution.{put, group_of, group_nodes}
use Rattle.typed_tree.specs.Typing.{GivesElements}
use Rattle.typed_tree.specs.Wants.{Want, Of, CellOf, Serves}
use Rattle.mo_meaning.specs.Actions.{act, answered}
use Rattle.mo_meaning.specs.Acts.{Store, Given, Gets, Fails, Act, Goes, Prints, Asks, Awaits, Leaves, Throws, Traps, Stuck}
use Rattle.mo_meaning.specs.Jumps.{at_label, at_handler, at_frame}
use Rattle.mo_meaning.specs.Matching.{on_match, trying, first_case}
use Rattle.mo_meaning.specs.Places.{inside, value_or, and_value, all_values, values_or, one, two}
use Rattle.mo_meaning.specs.Reduce.{chosen, turn_of, reduce, reduce_operand}
use Rattle.mo_soundness.specs.Keeps.{IsLonger, IsNoValue, closed, HasEach, Keeps, Suits}
use Rattle.mo_soundness.specs.Lawful.{IsLawful}
use Rattle.mo_soundness.specs.RunningPatterns.{MayHold, MayBe, PatternTyped}
use Rattle.mo_soundness.specs.Running.{Around, Does, with_names, AnswerTypes, HasValue, Typed, EachTyped, CasesTyped, FunctionsTyped, StoreTyped}
use Rattle.mo_soundness.specs.Worlds.{World}
use Rattle.mo_soundness.proofs.Actions.{acts_keep}
use Rattle.mo_soundness.proofs.Bodies.{natural_seen}
use Rattle.mo_soundness.proofs.Calls.{MembersKeep, covers_group, keeps_sub}
use Rattle.mo_soundness.proofs.Found.{unit_fits, flag_fits, error_fits, error_of, truth, HasNames, Matched, patterns, met}
use Rattle.mo_soundness.proofs.Less.{has_sub}
use Rattle.mo_soundness.proofs.More.{append_nil, longer_self, knows_self, has_grow, typed_grow, each_grow, cases_grow}
use Rattle.mo_soundness.proofs.Put.{named, Covers, put_typed}
use Rattle.mo_soundness.proofs.Wanted.{reflexive}

module _ (world : World) (lawful : IsLawful world.head) (answers : AnswerTypes) (kinds : List TypeId) where
  abbrev Has : Want TypeId → Value → Type 0
  Has = HasValue world answers kinds

  abbrev T : List TypeId → Exp → Want TypeId → Type 0
  T ls e w = Typed world answers kinds (closed ls) e w

  abbrev Holds : Store → Type 0
  Holds store = StoreTyped world answers kinds store kinds

  abbrev K : List TypeId → Want TypeId → Act → Type 0
  K = Keeps world answers kinds

  abbrev S : Option Given → Act → Type 0
  S = Suits world answers kinds

  abbrev Grows : List TypeId → (Exp → Exp) → Want TypeId → Want TypeId → Type 0
  Grows ls f u w = (more : List TypeId) (e : Exp) → IsLonger kinds more → Typed world answers more (closed ls) e u → Typed world answers more (closed ls) (f e) w

  inside_keeps : (ls : List TypeId) (f : Exp → Exp) (u w : Want TypeId) → Grows ls f u w → (a : Act) → K ls u a → K ls w (inside f a)
  inside_keeps ls f u w h (Goes cost store e) s = (s.0, s.1, s.2, h s.0 e s.1 s.3)
  inside_keeps ls f u w h (Prints cost text e) s = (s.0, h kinds e (longer_self kinds) s.1)
  inside_keeps ls f u w h (Asks r) s = s
  inside_keeps ls f u w h (Awaits n c) s = s
  inside_keeps ls f u w h (Leaves l v) s = s
  inside_keeps ls f u w h (Throws cost v) s = s
  inside_keeps ls f u w h (Traps cost text) s = s
  inside_keeps ls f u w h Stuck s = s

  goes_keeps : (ls : List TypeId) (w : Want TypeId) (store : Store) (e : Exp) (n : ℕ) → Holds store → T ls e w → K ls w (Goes (weighing n) store e)
  goes_keeps ls w store e n s h = (kinds, longer_self kinds, s, h)

  -- a value goes on so, and anything else so, at both reductions
  pub either : (P : Act → Act → Type 0) (e : Exp) (f g : Value → Act) (a b : Act) → ((v : Value) → e ≡ Val v → P (f v) (g v)) → (IsNoValue e → P a b) → P (value_or e f a) (value_or e g b)
  either P (Val v) f g a b h i = h v refl
  either P _ f g a b h i = i tt

  pub value_typed : (ls : List TypeId) (e : Exp) (v : Value) (w : Want TypeId) → e ≡ Val v → T ls e w → Has w v
  value_typed ls e v w q h = subst (λ e. T ls e w) q h

  -- ---- what is given goes inward

  pub suits_inside : (given : Option Given) (f : Exp → Exp) (a : Act) → S given (inside f a) → S given a
  suits_inside None f a s = tt
  suits_inside (Some (Gets v)) f (Asks r) s = s
  suits_inside (Some (Fails e)) f (Asks r) s = s
  suits_inside (Some (Gets v)) f (Awaits n c) s = s
  suits_inside (Some (Fails e)) f (Awaits n c) s = s
  suits_inside (Some g) f a s = tt

  suits_label : (given : Option Given) (store : Store) (a : Act) → S given (at_label store a) → S given a
  suits_label None store a s = tt
  suits_label (Some (Gets v)) store (Asks r) s = s
  suits_label (Some (Fails e)) store (Asks r) s = s
  suits_label (Some (Gets v)) store (Awaits n c) s = s
  suits_label (Some (Fails e)) store (Awaits n c) s = s
  suits_label (Some g) store a s = tt

  suits_handler : (given : Option Given) (store : Store) (p : Pat) (b : Exp) (a : Act) → S given (at_handler store p b a) → S given a
  suits_handler None store p b a s = tt
  suits_handler (Some (Gets v)) store p b (Asks r) s = s
  suits_handler (Some (Fails e)) store p b (Asks r) s = s
  suits_handler (Some (Gets v)) store p b (Awaits n c) s = s
  suits_handler (Some (Fails e)) store p b (Awaits n c) s = s
  suits_handler (Some g) store p b a s = tt

  pub suits_frame : (given : Option Given) (store : Store) (n : ℕ) (a : Act) → S given (at_frame store n a) → S given a
  suits_frame None store n a s = tt
  suits_frame (Some (Gets v)) store n (Asks r) s = s
  suits_frame (Some (Fails e)) store n (Asks r) s = s
  suits_frame (Some (Gets v)) store n (Awaits m c) s = s
  suits_frame (Some (Fails e)) store n (Awaits m c) s = s
  suits_frame (Some g) store n a s = tt

  -- ---- matches

  pub covers_names : (ns : List (Want TypeId)) (vs : List (Shape Code)) → HasNames world answers kinds ns vs → Covers world answers lawful kinds (slots_of vs) (ns ++ []) []
  covers_names [] [] h = refl
  covers_names [] (v ∷ vs) h = absurd h
  covers_names (w ∷ ns) [] h = absurd h
  covers_names (w ∷ ns) (v ∷ vs) h = (refl, named world answers kinds w (value_of v) h.0, covers_names ns vs h.1)

  pub match_keeps : (ls : List TypeId) (w : Want TypeId) (store : Store) (cost : Cost) (ns : List (Want TypeId)) (e : Exp) (o : Option (List (Shape Code))) (a : Act) → Holds store → Matched world answers kinds ns o → Typed world answers kinds (with_names ns (closed ls)) e w → K ls w a
      → K ls w (on_match o (λ s. Goes cost store (put s e)) a)
  match_keeps ls w store cost ns e None a s m h i = i
  match_keeps ls w store cost ns e (Some vs) a s m h i = (kinds, longer_self kinds, s, put_typed world answers lawful kinds e (slots_of vs) (ns ++ []) [] ls w (covers_names ns vs m) h)

  cases_keep : (ls : List TypeId) (w : Want TypeId) (store : Store) (weight : ℕ) (v : Value) (a : Want TypeId) (cases : Cases) → Holds store → Has a v → CasesTyped world answers kinds (closed ls) cases a w → K ls w (first_case store weight v cases)
  cases_keep ls w store weight v a NoCase s h c = tt
  cases_keep ls w store weight v a (ACase p e cases) s h c =
      match_keeps ls w store (weighing (weight + trying p v)) c.0 e (matches p (shape_of v)) _ s (met world answers kinds lawful p a c.0 v c.1 h) c.2 (cases_keep ls w store (weight + trying p v) v a cases s h c.3)

  chosen_keeps : (ls : List TypeId) (w : Want TypeId) (store : Store) (t : TypeId) (v : Value) (a b : Exp) → Holds store → IsBool world.head t → Has (Of t) v → T ls a w → T ls b w → K ls w (chosen store v a b)
  chosen_keeps ls w store t v a b s i h j k = let r = truth world answers kinds t v i h in subst (λ v. K ls w (chosen store v a b)) (sym r.1) (by r.0)
    where
      by : (f : Bool) → K ls w (chosen store (leaf (part.Flag f)) a b)
      by true = goes_keeps ls w store a 1 s j
      by false = goes_keeps ls w store b 1 s k

  then_typed : (ls : List TypeId) (b e : Exp) (u : TypeId) (w : Want TypeId) → T ls b (Of u) → T ls e w → T ls (then b e) w
  then_typed ls b e u w h i = (Of u, h, ([], refl, i, tt))

  -- ---- what goes outward

  leaves_keeps : (ls : List TypeId) (w : Want TypeId) (store : Store) (t k : TypeId) (v : Value) → Holds store → Serves world.head (Of t) w → Some t ≡ Some k → Has (Of k) v → K ls w (Goes (weighing 1) store (Val v))
  leaves_keeps ls w store t k v s i q h = let same : t ≡ k = cc in goes_keeps ls w store (Val v) 1 s (has_sub world lawful answers kinds v (Of k) w h (subst (λ t. Serves world.head (Of t) w) same i))

  jump_typed : (ls : List TypeId) (w : Want TypeId) (l : ℕ) (t : TypeId) (v : Value) → slice_get ls l ≡ Some t → Has (Of t) v → T ls (Do (action.Break l) (one (Val v))) w
  jump_typed ls w l t v q h = inl (Of t ∷ [], inr (t, q, refl), (h, tt))

  frame_keeps : (ls : List TypeId) (w : Want TypeId) (store : Store) (n : ℕ) (t : TypeId) → Holds store → Serves world.head (Of t) w → (a : Act) → K (t ∷ []) (Of t) a → K ls w (at_frame store n a)
  frame_keeps ls w store n t s i (Goes cost after e) h = (h.0, h.1, h.2, (t, h.3, i))
  frame_keeps ls w store n t s i (Prints cost text e) h = (h.0, (t, h.1, i))
  frame_keeps ls w store n t s i (Asks r) h = h
  frame_keeps ls w store n t s i (Awaits m c) h = h
  frame_keeps ls w store n t s i (Leaves zero v) h = leaves_keeps ls w store t h.0 v s i h.1 h.2
  frame_keeps ls w store n t s i (Leaves (suc l) v) h = absurd (let q : None ≡ Some h.0 = h.1 in cc)
  frame_keeps ls w store n t s i (Throws cost v) h = h
  frame_keeps ls w store n t s i (Traps cost text) h = h
  frame_keeps ls w store n t s i Stuck h = h

  label_keeps : (ls : List TypeId) (w : Want TypeId) (store : Store) (t : TypeId) → Holds store → Serves world.head (Of t) w → (a : Act) → K (t ∷ ls) (Of t) a → K ls w (at_label store a)
  label_keeps ls w store t s i (Goes cost after e) h = (h.0, h.1, h.2, (t, h.3, i))
  label_keeps ls w store t s i (Prints cost text e) h = (h.0, (t, h.1, i))
  label_keeps ls w store t s i (Asks r) h = h
  label_keeps ls w store t s i (Awaits m c) h = h
  label_keeps ls w store t s i (Leaves zero v) h = leaves_keeps ls w store t h.0 v s i h.1 h.2
  label_keeps ls w store t s i (Leaves (suc l) v) h = goes_keeps ls w store (Do (action.Break l) (one (Val v))) 1 s (jump_typed ls w l h.0 v h.1 h.2)
  label_keeps ls w store t s i (Throws cost v) h = (kinds, longer_self kinds, s, inr (inl h))
  label_keeps ls w store t s i (Traps cost text) h = h
  label_keeps ls w store t s i Stuck h = h

  handler_keeps : (ls : List TypeId) (w : Want TypeId) (store : Store) (t : TypeId) (ns : List (Want TypeId)) (p : Pat) (b : Exp) → Holds store → IsError world.head t → PatternTyped world.head p t ns → Typed world answers kinds (with_names ns (closed ls)) b w
      → Grows ls (λ e. Try e p b) w w → (a : Act) → K ls w a → K ls w (at_handler store p b a)
  handler_keeps ls w store t ns p b s q h i k (Throws cost v) j =
      match_keeps ls w store (weighing (cost.weight + trying p v)) ns b (matches p (shape_of v)) _ s (patterns world answers kinds lawful p t ns v h (error_fits world answers kinds t v q j.0)) i tt
  handler_keeps ls w store t ns p b s q h i k (Goes cost after e) j = inside_keeps ls (λ e. Try e p b) w w k (Goes cost after e) j
  handler_keeps ls w store t ns p b s q h i k (Prints cost text e) j = inside_keeps ls (λ e. Try e p b) w w k (Prints cost text e) j
  handler_keeps ls w store t ns p b s q h i k (Asks r) j = j
  handler_keeps ls w store t ns p b s q h i k (Awaits n c) j = j
  handler_keeps ls w store t ns p b s q h i k (Leaves l v) j = goes_keeps ls w store (Do (action.Break l) (one (Val v))) 1 s (jump_typed ls w l j.0 v j.1 j.2)
  handler_keeps ls w store t ns p b s q h i k (Traps cost text) j = j
  handler_keeps ls w store t ns p b s q h i k Stuck j = j

  -- ---- operands

  one_more : (v : Value) (w : Want TypeId) (ws : List (Want TypeId)) (vs : List Value) → Has w v → {p : Option (List Value)} (o : Option (List Value)) → ((us : List Value) → p ≡ Some us → HasEach world answers kinds ws us) → p ≡ o → and_value v o ≡ Some vs → HasEach world answers kinds (w ∷ ws) vs
  one_more v w ws vs h None f e q = absurd (let r : None ≡ Some vs = q in cc)
  one_more v w ws vs h (Some us) f e q = subst (HasEach world answers kinds (w ∷ ws)) (let same : v ∷ us ≡ vs = cc in same) (h, f us e)

  pub values_each : (ls : List TypeId) (es : Exps) (ws : List (Want TypeId)) (vs : List Value) → EachTyped world answers kinds (closed ls) es ws → all_values es ≡ Some vs → HasEach world answers kinds ws vs
  values_each ls NoExp [] vs h q = subst (HasEach world answers kinds []) (let same : [] ≡ vs = cc in same) tt
  values_each ls NoExp (w ∷ ws) vs h q = absurd h
  values_each ls (AnExp e es) [] vs h q = absurd h
  values_each ls (AnExp (Val v) es) (w ∷ ws) vs h q = one_more v w ws vs h.0 (all_values es) (λ us e. values_each ls es ws us h.1 e) refl q
  values_each ls (AnExp e es) (w ∷ ws) vs h q = absurd (let r : None ≡ Some vs = q in cc)

  and_none : (v : Value) (o : Option (List Value)) → and_value v o ≡ None → o ≡ None
  and_none v None q = refl
  and_none v (Some vs) q = absurd (let r : Some (v ∷ vs) ≡ None = q in cc)

  -- ---- the functions of a group

  pub functions_labels : (c : Around) (fns : Functions) (ws : List (Want TypeId)) → FunctionsTyped world answers kinds c fns ws → FunctionsTyped world answers kinds (record { names = c.names; labels = [] }) fns ws
  functions_labels c NoFunction [] h = tt
  functions_labels c NoFunction (w ∷ ws) h = absurd h
  functions_labels c (AFunction how n ps body fns) [] h = absurd h
  functions_labels c (AFunction how n ps body fns) (w ∷ ws) h = (h.0, functions_labels c fns ws h.1)

  group_keeps : (ls : List TypeId) (w : Want TypeId) (store : Store) (fns : Functions) (b : Exp) (ws : List (Want TypeId)) → Holds store → FunctionsTyped world answers kinds (with_names ws (closed ls)) fns ws → Typed world answers kinds (with_names ws (closed ls)) b w
      → K ls w (Goes (weighing (1 + group_nodes fns)) store (put (group_of fns) b))
  group_keeps ls w store fns b ws s h i =
      let names = subst (λ ns. FunctionsTyped world answers kinds (record { names = ns; labels = ls }) fns ws) (append_nil ws) h in
      let f = functions_labels (record { names = ws; labels = ls }) fns ws names in (
        kinds,
        longer_self kinds,
        s,
        put_typed world answers lawful kinds b (group_of fns) ws [] ls w (covers_group world lawful answers kinds fns ws f (record { names = ws; labels = ls }) fns ws 0 names (λ m. ap (slice_get ws) (omega arith)))
            (subst (λ ns. Typed world answers kinds (record { names = ns; labels = ls }) b w) (append_nil ws) i),
      )

  module _ (members : MembersKeep world lawful answers kinds) (given : Option Given) (store : Store) (st : StoreTyped world answers kinds store kinds) where
    abbrev asked : Exp → Act
    asked e = reduce world.meant None store e

    abbrev reduced : Exp → Act
    reduced e = reduce world.meant given store e

    does_keep : (ls : List TypeId) (w : Want TypeId) (a : Action) (ws : List (Want TypeId)) (vs : List Value) → Does world answers (closed ls) a ws w → HasEach world answers kinds ws vs → S given (act world.meant None store a vs) → K ls w (act world.meant given store a vs)
    does_keep ls w a ws vs (inl d) h i = keeps_sub world lawful answers kinds ls d.1 w (act world.meant given store a vs) d.3 (acts_keep world lawful answers kinds members ls store given a d.0 ws d.1 vs st d.2 h i)
    does_keep ls w (action.Break l) ws vs (inr j) h i = by vs (subst (λ ws. HasEach world answers kinds ws vs) j.2 h)
      where
        by : (vs : List Value) → HasEach world answers kinds (Of j.0 ∷ []) vs → K ls w (act world.meant given store (action.Break l) vs)
        by [] k = absurd k
        by (v ∷ []) k = (j.0, j.1, k.0)
        by (v ∷ u ∷ us) k = absurd k.1
    does_keep ls w action.Throw ws vs (inr j) h i = by vs (subst (λ ws. HasEach world answers kinds ws vs) j.2 h)
      where
        by : (vs : List Value) → HasEach world answers kinds (Of j.0 ∷ []) vs → K ls w (act world.meant given store action.Throw vs)
        by [] k = absurd k
        by (v ∷ []) k = (error_of world answers kinds j.0 v j.1 k.0, j.3)
        by (v ∷ u ∷ us) k = absurd k.1
    does_keep ls w a ws vs (inr j) h i = absurd j

    do_keeps : (ls : List TypeId) (w : Want TypeId) (a : Action) (ws : List (Want TypeId)) → Does world answers (closed ls) a ws w → (es : Exps) → EachTyped world answers kinds (closed ls) es ws → (o : Option (List Value)) → all_values es ≡ o
        → (all_values es ≡ None → S given (reduce_operand world.meant None store (Do a) es) → K ls w (reduce_operand world.meant given store (Do a) es))
        → S given (values_or o (act world.meant None store a) (reduce_operand world.meant None store (Do a) es)) → K ls w (values_or o (act world.meant given store a) (reduce_operand world.meant given store (Do a) es))
    do_keeps ls w a ws d es h None e f i = f e i
    do_keeps ls w a ws d es h (Some vs) e f i = does_keep ls w a ws vs d (values_each ls es ws vs h e) i

    may_hold : (o t : TypeId) → ((world.head o ≡ node.Opt t) ⊎ (((world.head o ≡ node.Null) ⊎ (world.head o ≡ node.Bottom)) × (world.head t ≡ node.Bottom))) → MayHold world.head (world.head o) t
    may_hold o t (inl e) = inl e
    may_hold o t (inr e) = inr e.0

    null_there : (o t : TypeId) → ((world.head o ≡ node.Opt t) ⊎ (((world.head o ≡ node.Null) ⊎ (world.head o ≡ node.Bottom)) × (world.head t ≡ node.Bottom))) → MayBe world.head (world.head o) part.Null
    null_there o t (inl e) = inl (subst (λ x. IsPartOf x part.Null) (sym e) tt)
    null_there o t (inr (inl e, d)) = inl (subst (λ x. IsPartOf x part.Null) (sym e) tt)
    null_there o t (inr (inr e, d)) = inr e

    turn_typed : (ls : List TypeId) (p : Pat) (v : Value) (b : Exp) (w : Want TypeId) (i t u : TypeId) (ns : List (Want TypeId)) → GivesElements world.head i t → IsUnit world.head u → Has (Of i) v → PatternTyped world.head p t ns → Typed world answers kinds (with_names ns (closed ls)) b (Of u) → Serves world.head (Of u) w
        → T ls (turn_of p v b) w
    turn_typed ls p v b w i t u ns it iu h pt bt sv =
        let next = it.1 in
        let o = it.2 in
        let f = it.4.0 in
        let field : Serves world.head (by_mutability f.mutable f.part) (Of next) = subst (λ m. Serves world.head (by_mutability m f.part) (Of next)) (sym it.4.2) (subst (λ q. Serves world.head (Of q) (Of next)) (sym it.4.3) (reflexive world.head lawful next)) in
        let got : T ls (Do (action.Operate (op.Field (codes "next"))) (one (Val v))) (Of next) = inl (Of i ∷ [], inl (sort.Local, field_want (Some f), (i, refl, (it.0, f, it.3, it.4.1, refl)), field), (h, tt)) in
        let called : T ls (Do action.Call (one (Do (action.Operate (op.Field (codes "next"))) (one (Val v))))) (Of o) = inl (Of next ∷ [], inl (sort.Local, Of o, (next, o, [], it.5, refl, refl), reflexive world.head lawful o), (got, tt)) in (
          lawful.flag,
          lawful.is_flag,
          (
            Of o,
            called,
            (
              [],
              (o, reflexive world.head lawful o, tt, null_there o t it.6, refl),
              flag_fits world answers kinds lawful.flag false lawful.is_flag,
              (ns, (o, t, reflexive world.head lawful o, may_hold o t it.6, pt), (Of u, bt, ([], refl, flag_fits world answers kinds lawful.flag true lawful.is_flag, tt)), tt),
            ),
          ),
          (i, t, u, ns, it, iu, h, pt, bt, sv),
          has_sub world lawful answers kinds unit (Of u) w (unit_fits world answers kinds u iu) sv,
        )

    -- an index into an empty array traps
    empty_keeps : (ls : List TypeId) (w : Want TypeId) (k : TypeId) (v : Value) → IsNumber world.head kind.Nat k → Has (Of k) v → K ls w (act world.meant given store (action.Operate op.Element) (Made Array NoValue ∷ v ∷ []))
    empty_keeps ls w k v q h =
        let r = natural_seen world lawful answers kinds k v q h in
        subst (λ o. K ls w (answered store (operation_cost op.Element (shapes_list (Made Array NoValue ∷ v ∷ [])) (views.given o (λ i. in_bounds (slice_get [] i)))) (views.given o (λ i. in_bounds (slice_get [] i))))) (sym r.1) tt

    abbrev P : List TypeId → Want TypeId → Act → Act → Type 0
    P ls w a b = S given a → K ls w b

    mutual
      pub keeps : (e : Exp) (ls : List TypeId) (w : Want TypeId) → IsNoValue e → T ls e w → S given (asked e) → K ls w (reduced e)
      keeps (Val v) ls w n h i = absurd n
      keeps (Name x) ls w n h i = absurd (let q : None ≡ Some h.0 = h.1 in cc)
      keeps (Do a es) ls w n (inl h) i =
          do_keeps ls w a h.0 h.1 es h.2 (all_values es) refl
          (λ q j. operand_keeps es h.0 (Do a) ls w h.2 (λ more es' g k. inl (h.0, h.1, k)) q j) i
      keeps (Do action.Throw (AnExp (Val v) NoExp)) ls w n (inr (inl h)) i = h
      keeps (Do a es) ls w n (inr (inl h)) i = absurd h.0
      keeps (Do (action.Operate op.Element) (AnExp (Val (Made Array NoValue)) (AnExp (Val v) NoExp))) ls w n (inr (inr h)) i = empty_keeps ls w h.1.0 v h.1.1 h.1.2.0
      keeps (Do (action.Operate op.Element) (AnExp (Val (Made Array NoValue)) (AnExp e NoExp))) ls w n (inr (inr h)) i =
          inside_keeps ls (λ e. Do (action.Operate op.Element) (AnExp (Val (Made Array NoValue)) (AnExp e NoExp))) (Of h.1.0) w (λ more e g j. inr (inr (tt, (h.1.0, h.1.1, (j, tt)))))
          (reduced e) (keeps e ls (Of h.1.0) tt h.1.2.0 (suits_inside given (λ e. Do (action.Operate op.Element) (AnExp (Val (Made Array NoValue)) (AnExp e NoExp))) (asked e) i))
      keeps (Do (action.Operate op.Element) (AnExp (Val (Made Array NoValue)) NoExp)) ls w n (inr (inr h)) i = absurd h.1.2
      keeps (Do (action.Operate op.Element) (AnExp (Val (Made Array NoValue)) (AnExp e (AnExp f es)))) ls w n (inr (inr h)) i = absurd h.1.2.1
      keeps (Do (action.Operate op.Element) es) ls w n (inr (inr h)) i = absurd h.1
      keeps (Do a es) ls w n (inr (inr h)) i = absurd h.0
      keeps (If c a b) ls w n h i =
          either (P ls w) c _ _ _ _
          (λ v q j. chosen_keeps ls w store h.0 v a b st h.1 (value_typed ls c v (Of h.0) q h.2) h.3 h.4)
          (λ nc j. inside_keeps ls (λ e. If e a b) (Of h.0) w
          (λ more e g k. (h.0, h.1, k, typed_grow world answers answers (knows_self answers) kinds more g (closed ls) a w h.3, typed_grow world answers answers (knows_self answers) kinds more g (closed ls) b w h.4))
          (reduced c) (keeps c ls (Of h.0) nc h.2 (suits_inside given (λ e. If e a b) (asked c) j))) i
      keeps (Switch e cases) ls w n h i =
          either (P ls w) e _ _ _ _
          (λ v q j. cases_keep ls w store 1 v h.0 cases st (value_typed ls e v h.0 q h.1) h.2)
          (λ ne j. inside_keeps ls (λ f. Switch f cases) h.0 w (λ more e g k. (h.0, k, cases_grow world answers answers (knows_self answers) kinds more g (closed ls) cases h.0 w h.2))
          (reduced e) (keeps e ls h.0 ne h.1 (suits_inside given (λ f. Switch f cases) (asked e) j))) i
      keeps (Group fns b) ls w n h i = group_keeps ls w store fns b h.0 st h.1 h.2
      keeps (Frame m e) ls w n h i =
          either (P ls w) e _ _ _ _
          (λ v q j. goes_keeps ls w store (Val v) 1 st (has_sub world lawful answers kinds v (Of h.0) w (value_typed (h.0 ∷ []) e v (Of h.0) q h.1) h.2))
          (λ ne j. frame_keeps ls w store m h.0 st h.2 (reduced e) (keeps e (h.0 ∷ []) (Of h.0) ne h.1 (suits_frame given store m (asked e) j))) i
      keeps (Label e) ls w n h i =
          either (P ls w) e _ _ _ _
          (λ v q j. goes_keeps ls w store (Val v) 1 st (has_sub world lawful answers kinds v (Of h.0) w (value_typed (h.0 ∷ ls) e v (Of h.0) q h.1) h.2))
          (λ ne j. label_keeps ls w store h.0 st h.2 (reduced e) (keeps e (h.0 ∷ ls) (Of h.0) ne h.1 (suits_label given store (asked e) j))) i
      keeps (While c b) ls w n h i =
          goes_keeps ls w store (If c (then b (While c b)) (Val unit)) 1 st (h.0, h.2, h.4, then_typed ls b (While c b) h.1 w h.5 h, has_sub world lawful answers kinds unit (Of h.1) w (unit_fits world answers kinds h.1 h.3) h.6)
      keeps (Repeat b c) ls w n h i =
          goes_keeps ls w store (then b (If c (Repeat b c) (Val unit))) 1 st
          (then_typed ls b (If c (Repeat b c) (Val unit)) h.1 w h.5 (h.0, h.2, h.4, h, has_sub world lawful answers kinds unit (Of h.1) w (unit_fits world answers kinds h.1 h.3) h.6))
      keeps (For p e b) ls w n h i =
          either (P ls w) e _ _ _ _
          (λ v q j. goes_keeps ls w store (turn_of p v b) 1 st (turn_typed ls p v b w h.0 h.1 h.2 h.3 h.4 h.5 (value_typed ls e v (Of h.0) q h.6) h.7 h.8 h.9))
          (λ ne j. inside_keeps ls (λ f. For p f b) (Of h.0) w
          (λ more e g k. (h.0, h.1, h.2, h.3, h.4, h.5, k, h.7, typed_grow world answers answers (knows_self answers) kinds more g (with_names h.3 (closed ls)) b (Of h.2) h.8, h.9))
          (reduced e) (keeps e ls (Of h.0) ne h.6 (suits_inside given (λ f. For p f b) (asked e) j))) i
      keeps (Try e p b) ls w n h i =
          either (P ls w) e _ _ _ _
          (λ v q j. goes_keeps ls w store (Val v) 1 st (value_typed ls e v w q h.3))
          (λ ne j. handler_keeps ls w store h.0 h.1 p b st h.2 h.4 h.5
          (λ more e g k. (h.0, h.1, h.2, k, h.4, typed_grow world answers answers (knows_self answers) kinds more g (with_names h.1 (closed ls)) b w h.5))
          (reduced e) (keeps e ls w ne h.3 (suits_handler given store p b (asked e) j))) i
      keeps (Update o e f) ls w n h i =
          either (P ls w) e _ _ _ _
          (λ v q j. let c = value_typed ls e v (CellOf h.0) q h.6 in
          let read : T ls (Do action.Read (one (Val v))) h.3 = inl (CellOf h.0 ∷ [], inl (sort.Local, Of h.0, (h.0, refl, refl), h.7), (c, tt)) in
          let computed : T ls (Do (action.Operate o) (two (Do action.Read (one (Val v))) f)) (Of h.0) = inl (h.3 ∷ h.4 ∷ [], inl (sort.Local, Of h.2, h.5, h.9), (read, (h.8, tt))) in
          goes_keeps ls w store (Do action.Write (two (Val v) (Do (action.Operate o) (two (Do action.Read (one (Val v))) f)))) 1 st
          (inl (CellOf h.0 ∷ Of h.0 ∷ [], inl (sort.Local, Of h.1, (h.0, refl, (h.1, refl, h.10)), h.11), (c, (computed, tt)))))
          (λ ne j. inside_keeps ls (λ e. Update o e f) (CellOf h.0) w
          (λ more e g k. (h.0, h.1, h.2, h.3, h.4, h.5, k, h.7, typed_grow world answers answers (knows_self answers) kinds more g (closed ls) f h.4 h.8, h.9, h.10, h.11))
          (reduced e) (keeps e ls (CellOf h.0) ne h.6 (suits_inside given (λ e. Update o e f) (asked e) j))) i

      operand_keeps : (es : Exps) (ws : List (Want TypeId)) (f : Exps → Exp) (ls : List TypeId) (w : Want TypeId) → EachTyped world answers kinds (closed ls) es ws
          → ((more : List TypeId) (es' : Exps) → IsLonger kinds more → EachTyped world answers more (closed ls) es' ws → Typed world answers more (closed ls) (f es') w) → all_values es ≡ None
          → S given (reduce_operand world.meant None store f es) → K ls w (reduce_operand world.meant given store f es)
      operand_keeps NoExp ws f ls w h k q i = absurd (let r : Some [] ≡ None = q in cc)
      operand_keeps (AnExp e es) [] f ls w h k q i = absurd h
      operand_keeps (AnExp (Val v) es) (a ∷ ws) f ls w h k q i =
          operand_keeps es ws (λ rest. f (AnExp (Val v) rest)) ls w h.1 (λ more es' g j. k more (AnExp (Val v) es') g (has_grow world answers answers (knows_self answers) kinds more g v a h.0, j)) (and_none v (all_values es) q) i
      operand_keeps (AnExp e es) (a ∷ ws) f ls w h k q i =
          inside_keeps ls (λ e. f (AnExp e es)) a w (λ more e g j. k more (AnExp e es) g (j, each_grow world answers answers (knows_self answers) kinds more g (closed ls) es ws h.1))
          (reduced e) (keeps e ls a tt h.0 (suits_inside given (λ e. f (AnExp e es)) (asked e) i))
