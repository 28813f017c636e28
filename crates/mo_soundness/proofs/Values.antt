-- Values that fit here are values of their types as the table of operations sees them, and so its answers are.
use Rattle.std.proofs.Common.{◌≡◌, ◌⊎◌, inl, inr, ℕ, zero, suc, List, [], ◌∷◌, map, Bool, true, false, not, Option, Some, None, refl, sym, ap, subst}
use Rattle.mo_types.specs.declared.datum.Datum.TheVariants as part
use Rattle.mo_types.specs.declared.node.Field.{Field}
use Rattle.mo_types.specs.declared.node.Node.{Node}
use Rattle.mo_types.specs.declared.node.Node.TheVariants as node
use Rattle.mo_types.specs.declared.node.Sort.TheVariants as sort
use Rattle.mo_types.specs.declared.node.TypeId.{TypeId}
use Rattle.mo_types.specs.Heads.{opt_of, array_of, mut_array_of, tuple_of, object_of, variant_of}
use Rattle.mo_types.specs.Sub.{Each, find}
use Rattle.mo_types.specs.Values.{copies}
use Rattle.mo_values.specs.declared.operation.Operation.{Operation}
use Rattle.mo_values.specs.declared.operation.Operation.TheVariants as op
use Rattle.mo_values.specs.Messages.{count}
use Rattle.mo_values.specs.Operations.{operate, flag}
use Rattle.mo_values.specs.Shapes.{Bytes, Head, Leaf, Present, Tuple, Array, Object, Tag, Error, Cell, Future, Shape, Shapes}
use Rattle.mo_values.specs.Views.{Answer, Gives, given}
use Rattle.mo_values.specs.Views as answer
use Rattle.typed_tree.specs.Has as typed
use Rattle.typed_tree.specs.Has.{RootOf, wants}
use Rattle.typed_tree.specs.Language.{Value, Values, Made, Function, BuiltIn, NoValue, AValue}
use Rattle.typed_tree.specs.Opening.{Code, Closed, BuiltInCode, shape_of, shapes_of, value_of, shapes_list}
use Rattle.typed_tree.specs.OperationTypes.{OperationTyped}
use Rattle.typed_tree.specs.Soundness.{AllHave, AnswerHas}
use Rattle.typed_tree.specs.Wants.{Want, Anything, Of, CellOf, FutureOf, KeptOf, Generic}
use Rattle.typed_tree.proofs.Opened.{shape_value}
use Rattle.typed_tree.proofs.SoundTable.{table}
use Rattle.mo_soundness.specs.Keeps.{HasEach}
use Rattle.mo_soundness.specs.Running.{AnswerTypes, SameEquality, Operates, Callable, plain, Fits, HasValue, HaveValues, FunctionOf, known}
use Rattle.mo_soundness.specs.Worlds.{World}

module _ (world : World) (answers : AnswerTypes) (kinds : List TypeId) where
  abbrev Seen : Want TypeId → Value → Type 0
  Seen w v = typed.Has world.head (known world answers kinds) kinds w (shape_of v)

  abbrev AllSeen : List (Want TypeId) → Values → Type 0
  AllSeen ws vs = typed.HasEach world.head (known world answers kinds) kinds ws (shapes_of vs)

  abbrev RootHere : Node TypeId → Head → Type 0
  RootHere x h = RootOf world.head (plain world.head answers) [] x h

  abbrev RootThere : Node TypeId → Head → Type 0
  RootThere x h = RootOf world.head (known world answers kinds) kinds x h

  root_there : (x : Node TypeId) (h : Head) → RootHere x h → RootThere x h
  root_there x (Leaf p) r = r
  root_there x Present r = r
  root_there x Tuple r = r
  root_there x Array r = r
  root_there x (Object ls) r = r
  root_there x (Tag l) r = r
  root_there x (Error c m) r = r
  root_there x (Cell at) r = r
  root_there x (Future call) r = r

  root_here : (x : Node TypeId) (h : Head) → RootThere x h → RootHere x h
  root_here x (Leaf p) r = r
  root_here x Present r = r
  root_here x Tuple r = r
  root_here x Array r = r
  root_here x (Object ls) r = r
  root_here x (Tag l) r = r
  root_here x (Error c m) r = r
  root_here x (Cell at) r = r
  root_here x (Future call) r = r

  fits_there : (x : Node TypeId) (h : Head) (i : Shapes Code) → Fits world.head answers x h → typed.Fits world.head (known world answers kinds) kinds x h i
  fits_there node.Any h i f = f
  fits_there (node.Variable v b) h i f = absurd f
  fits_there x h i f = root_there x h f

  fits_here : (x : Node TypeId) (h : Head) (i : Shapes Code) → typed.Fits world.head (known world answers kinds) kinds x h i → Fits world.head answers x h
  fits_here node.Any h i f = f
  fits_here (node.Variable v b) h i f = absurd f
  fits_here x h i f = root_here x h f

  callable_there : (x : Node TypeId) (f : Code) (t : TypeId) → Callable x (FunctionOf world answers kinds f t) → typed.FunctionFits world.head (known world answers kinds) kinds x f t
  callable_there node.Any f t c = tt
  callable_there (node.Func sort.Local ps rs) f t c = c
  callable_there x f t c = absurd c

  callable_here : (x : Node TypeId) (f : Code) (t : TypeId) → typed.FunctionFits world.head (known world answers kinds) kinds x f t → Callable x (FunctionOf world answers kinds f t)
  callable_here node.Any f t c = tt
  callable_here (node.Func sort.Local ps rs) f t c = c
  callable_here x f t c = absurd c

  mutual
    pub there : (v : Value) (w : Want TypeId) → HasValue world answers kinds w v → Seen w v
    there v Anything h = tt
    there (Made k inner) (Of t) h = (fits_there (world.head t) k (shapes_of inner) h.0, all_there inner (wants k (world.head t) (count (shapes_of inner))) h.1)
    there (Function group which) (Of t) h = callable_there (world.head t) (Closed group which) t h
    there (BuiltIn m holds) (Of t) h = callable_there (world.head t) (BuiltInCode m holds) t h
    there (Made (Cell at) NoValue) (CellOf t) h = h
    there (Made (Future call) NoValue) (FutureOf t) h = h
    there (Made (Leaf part.Null) NoValue) (KeptOf t) h = tt
    there (Made Present inner) (KeptOf t) h = all_there inner (Of t ∷ []) h
    there v (CellOf t) h = absurd h
    there v (FutureOf t) h = absurd h
    there v (KeptOf t) h = absurd h
    there v (Generic vs t) h = absurd h

    all_there : (vs : Values) (ws : List (Want TypeId)) → HaveValues world answers kinds ws vs → AllSeen ws vs
    all_there NoValue [] h = tt
    all_there NoValue (w ∷ ws) h = absurd h
    all_there (AValue v vs) [] h = absurd h
    all_there (AValue v vs) (w ∷ ws) h = (there v w h.0, all_there vs ws h.1)

  -- of no operation's answer more is asked than that it is a value of a type, a cell or the like
  abbrev IsPlain : Want TypeId → Type 0
  IsPlain (Generic vs t) = ⊥
  IsPlain _ = Unit {0}

  plain_copies : (n : ℕ) (w : Want TypeId) → IsPlain w → Each IsPlain (copies n w)
  plain_copies zero w i = tt
  plain_copies (suc n) w i = (i, plain_copies n w i)

  plain_types : (ts : List TypeId) → Each IsPlain (map (λ t. Of t) ts)
  plain_types [] = tt
  plain_types (t ∷ ts) = (tt, plain_types ts)

  plain_none : (ls : List Bytes) → Each IsPlain (map (λ l. Anything) ls)
  plain_none [] = tt
  plain_none (l ∷ ls) = (tt, plain_none ls)

  plain_mutable : (m : Bool) (t : TypeId) → IsPlain (typed.by_mutability m t)
  plain_mutable true t = tt
  plain_mutable false t = tt

  plain_field : (o : Option (Field TypeId)) → IsPlain (typed.field_want o)
  plain_field None = tt
  plain_field (Some f) = plain_mutable f.mutable f.part

  plain_fields : (fs : List (Field TypeId)) (ls : List Bytes) → Each IsPlain (map (λ l. typed.field_want (find l fs)) ls)
  plain_fields fs [] = tt
  plain_fields fs (l ∷ ls) = (plain_field (find l fs), plain_fields fs ls)

  plain_tag : (o : Option (Field TypeId)) → IsPlain (typed.tag_want o)
  plain_tag None = tt
  plain_tag (Some f) = tt

  plain_array : (n : ℕ) (a b : Option TypeId) → Each IsPlain (typed.array_wants n a b)
  plain_array n (Some a) b = plain_copies n (Of a) tt
  plain_array n None (Some b) = plain_copies n (CellOf b) tt
  plain_array n None None = plain_copies n Anything tt

  plain_some : {V : Type 0} (others : List (Want TypeId)) (f : V → List (Want TypeId)) (o : Option V) → Each IsPlain others → ((v : V) → Each IsPlain (f v)) → Each IsPlain (typed.some_wants others f o)
  plain_some others f None h k = h
  plain_some others f (Some v) h k = k v

  plain_wants : (h : Head) (x : Node TypeId) (n : ℕ) → Each IsPlain (wants h x n)
  plain_wants (Leaf p) x n = tt
  plain_wants Present x n = plain_some (Anything ∷ []) (λ a. Of a ∷ []) (opt_of x) (tt, tt) (λ a. (tt, tt))
  plain_wants Tuple x n = plain_some (copies n Anything) (λ ts. map (λ t. Of t) ts) (tuple_of x) (plain_copies n Anything tt) (λ ts. plain_types ts)
  plain_wants Array x n = plain_array n (array_of x) (mut_array_of x)
  plain_wants (Object ls) x n = plain_some (map (λ l. Anything) ls) (λ fs. map (λ l. typed.field_want (find l fs)) ls) (object_of x) (plain_none ls) (λ fs. plain_fields fs ls)
  plain_wants (Tag l) x n = plain_some (Anything ∷ []) (λ fs. typed.tag_want (find l fs) ∷ []) (variant_of x) (tt, tt) (λ fs. (plain_tag (find l fs), tt))
  plain_wants (Error c m) x n = tt
  plain_wants (Cell at) x n = tt
  plain_wants (Future call) x n = tt

  mutual
    pub here : (v : Value) (w : Want TypeId) → IsPlain w → Seen w v → HasValue world answers kinds w v
    here v Anything i h = tt
    here v (Generic vs t) i h = absurd i
    here (Made k inner) (Of t) i h = (fits_here (world.head t) k (shapes_of inner) h.0, all_here inner (wants k (world.head t) (count (shapes_of inner))) (plain_wants k (world.head t) (count (shapes_of inner))) h.1)
    here (Function group which) (Of t) i h = callable_here (world.head t) (Closed group which) t h
    here (BuiltIn m holds) (Of t) i h = callable_here (world.head t) (BuiltInCode m holds) t h
    here (Made (Cell at) NoValue) (CellOf t) i h = h
    here (Made (Future call) NoValue) (FutureOf t) i h = h
    here (Made (Leaf part.Null) NoValue) (KeptOf t) i h = tt
    here (Made Present inner) (KeptOf t) i h = all_here inner (Of t ∷ []) (tt, tt) h
    here v (CellOf t) i h = absurd h
    here v (FutureOf t) i h = absurd h
    here v (KeptOf t) i h = absurd h

    all_here : (vs : Values) (ws : List (Want TypeId)) → Each IsPlain ws → AllSeen ws vs → HaveValues world answers kinds ws vs
    all_here NoValue [] i h = tt
    all_here NoValue (w ∷ ws) i h = absurd h
    all_here (AValue v vs) [] i h = absurd h
    all_here (AValue v vs) (w ∷ ws) i h = (here v w i.0 h.0, all_here vs ws i.1 h.1)

  each_seen : (ws : List (Want TypeId)) (vs : List Value) → HasEach world answers kinds ws vs → AllHave world.head (known world answers kinds) kinds ws (shapes_list vs)
  each_seen [] [] h = tt
  each_seen [] (v ∷ vs) h = absurd h
  each_seen (w ∷ ws) [] h = absurd h
  each_seen (w ∷ ws) (v ∷ vs) h = (there v w h.0, each_seen ws vs h.1)

  -- an answer that fits
  abbrev pub AnswerFits : Want TypeId → Answer Code → Type 0
  AnswerFits w (Gives s) = HasValue world answers kinds w (value_of s)
  AnswerFits w (answer.Traps text) = Unit {0}
  AnswerFits w answer.Stuck = ⊥

  answer_here : (w : Want TypeId) (a : Answer Code) → IsPlain w → AnswerHas world.head (known world answers kinds) kinds w a → AnswerFits w a
  answer_here w (Gives s) i h = here (value_of s) w i (subst (λ s. typed.Has world.head (known world answers kinds) kinds w s) (sym (shape_value s)) h)
  answer_here w (answer.Traps text) i h = tt
  answer_here w answer.Stuck i h = h

  is_plain_from : (t : TypeId) (g : Want TypeId) → g ≡ Of t → IsPlain g
  is_plain_from t g e = subst IsPlain (sym e) tt

  plain_answer : (o : Operation) (ws : List (Want TypeId)) (g : Want TypeId) → OperationTyped world.head o ws g → IsPlain g
  plain_answer (op.Arithmetic o k) ws g h = is_plain_from h.0 g h.3
  plain_answer (op.Wrap o k) ws g h = is_plain_from h.0 g h.4
  plain_answer (op.Negate k) ws g h = is_plain_from h.0 g h.3
  plain_answer (op.Compare c s) ws g h = is_plain_from h.4.0 g h.4.1
  plain_answer (op.Same s) ws g h = is_plain_from h.3.0 g h.3.1
  plain_answer (op.Equal t) ws g h = is_plain_from h.2.0 g h.2.1
  plain_answer (op.Unequal t) ws g h = is_plain_from h.2.0 g h.2.1
  plain_answer op.Not ws g h = is_plain_from h.1.0 g h.1.1
  plain_answer op.Assert ws g h = is_plain_from h.1.0 g h.1.1
  plain_answer op.Concat ws g h = is_plain_from h.0 g h.3
  plain_answer op.TextSize ws g h = is_plain_from h.1.0 g h.1.1
  plain_answer (op.ToText k) ws g h = is_plain_from h.1.0 g h.1.1
  plain_answer op.MakeTuple ws g h = is_plain_from h.0 g h.1
  plain_answer op.MakeOption ws g h = is_plain_from h.0 g h.1
  plain_answer (op.MakeTag l) ws g h = is_plain_from h.0 g h.1
  plain_answer op.MakeArray ws g h = is_plain_from h.0 g h.1
  plain_answer (op.MakeObject ls) ws g h = is_plain_from h.0 g h.1
  plain_answer (op.Project i) ws g h = is_plain_from h.2.1 g h.2.4
  plain_answer (op.Field l) ws g h = subst IsPlain (sym h.2.4) (plain_field (Some h.2.1))
  plain_answer op.Element ws g h = by h.5
    where
      by : ((world.head h.0 ≡ node.Array h.2) × (g ≡ Of h.2)) ⊎ ((world.head h.0 ≡ node.MutArray h.2) × (g ≡ CellOf h.2)) → IsPlain g
      by (inl e) = is_plain_from h.2 g e.1
      by (inr e) = subst IsPlain (sym e.1) tt
  plain_answer op.ArraySize ws g h = is_plain_from h.1.0 g h.1.1
  plain_answer (op.Method l) ws g h = is_plain_from h.2.1.part g h.2.6
  plain_answer op.PrincipalOf ws g h = is_plain_from h.1.0 g h.1.1
  plain_answer op.RejectError ws g h = is_plain_from h.1.0 g h.1.1
  plain_answer op.Message ws g h = is_plain_from h.1.0 g h.1.1
  plain_answer op.Code ws g h = is_plain_from h.1.0 g h.1.1
  plain_answer op.Trap ws g h = is_plain_from h.1.0 g h.1.1
  plain_answer (op.Fail text) ws g h = is_plain_from h.1.0 g h.1.1

  -- each row of the table of operations
  operates_here : (o : Operation) (ws : List (Want TypeId)) (g : Want TypeId) (vs : List Value) → OperationTyped world.head o ws g → HasEach world answers kinds ws vs → AnswerFits g (operate world.head o (shapes_list vs))
  operates_here o ws g vs t h = answer_here g (operate world.head o (shapes_list vs)) (plain_answer o ws g t) (table world.head (known world answers kinds) kinds o ws g (shapes_list vs) t (each_seen ws vs h))

  -- all but equality go by no type
  abbrev GoesByNoType : Operation → Type 0
  GoesByNoType (op.Equal t) = ⊥
  GoesByNoType (op.Unequal t) = ⊥
  GoesByNoType o = Unit {0}

  same_answers : (o : Operation) → GoesByNoType o → (ss : List (Shape Code)) → operate world.meant o ss ≡ operate world.head o ss
  same_answers (op.Equal t) n ss = absurd n
  same_answers (op.Unequal t) n ss = absurd n
  same_answers o n [] = refl
  same_answers o n (v ∷ []) = refl
  same_answers o n (v ∷ x ∷ []) = refl
  same_answers o n (v ∷ x ∷ y ∷ ss) = refl

  equal_answers : (t u : TypeId) → SameEquality world t u → (ss : List (Shape Code)) → operate world.meant (op.Equal t) ss ≡ operate world.head (op.Equal u) ss
  equal_answers t u e [] = refl
  equal_answers t u e (v ∷ []) = refl
  equal_answers t u e (v ∷ x ∷ []) = ap (λ o. given o (λ b. flag b)) (e v x)
  equal_answers t u e (v ∷ x ∷ y ∷ ss) = refl

  unequal_answers : (t u : TypeId) → SameEquality world t u → (ss : List (Shape Code)) → operate world.meant (op.Unequal t) ss ≡ operate world.head (op.Unequal u) ss
  unequal_answers t u e [] = refl
  unequal_answers t u e (v ∷ []) = refl
  unequal_answers t u e (v ∷ x ∷ []) = ap (λ o. given o (λ b. flag (not b))) (e v x)
  unequal_answers t u e (v ∷ x ∷ y ∷ ss) = refl

  pub operates : (o : Operation) (ws : List (Want TypeId)) (g : Want TypeId) (vs : List Value) → Operates world o ws g → HasEach world answers kinds ws vs → AnswerFits g (operate world.meant o (shapes_list vs))
  operates (op.Equal t) ws g vs h i = subst (AnswerFits g) (sym (equal_answers t h.0 h.1 (shapes_list vs))) (operates_here (op.Equal h.0) ws g vs h.2 i)
  operates (op.Unequal t) ws g vs h i = subst (AnswerFits g) (sym (unequal_answers t h.0 h.1 (shapes_list vs))) (operates_here (op.Unequal h.0) ws g vs h.2 i)
  operates o ws g vs h i = subst (AnswerFits g) (sym (same_answers o tt (shapes_list vs))) (operates_here o ws g vs h i)
