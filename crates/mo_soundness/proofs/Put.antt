-- Typed expressions stay typed where values that fit are put in the place of names.
use Rattle.std.proofs.Common.{◌≡◌, ◌⊎◌, inl, inr, ℕ, zero, suc, ◌+◌, List, [], ◌∷◌, ◌++◌, map, length, Some, None, refl, sym, ap, ap₂, ◌∙◌, subst, slice_get, length-append, arith}
use Rattle.mo_types.specs.declared.node.Sort.{Sort}
use Rattle.mo_types.specs.declared.node.TypeId.{TypeId}
use Rattle.mo_types.specs.declared.datum.Datum.TheVariants as part
use Rattle.mo_values.specs.Messages.{count as count_values}
use Rattle.mo_values.specs.Shapes.{Leaf, Present, Array, Cell, Future}
use Rattle.typed_tree.specs.Has.{wants}
use Rattle.typed_tree.specs.Opening.{shapes_of}
use Rattle.typed_tree.specs.declared.action.Action.{Action}
use Rattle.typed_tree.specs.declared.action.Action.TheVariants as action
use Rattle.typed_tree.specs.Language.{Value, Values, Made, Function, BuiltIn, NoValue, AValue, Exp, Exps, Cases, Functions, Val, Name, Do, If, Switch, Group, Frame, Label, While, Repeat, For, Try, Update, NoExp, AnExp, NoCase, ACase, NoFunction, AFunction}
use Rattle.typed_tree.specs.Patterns.{Pat, Pats, Wildcard, Bind, Constant, Present?, Tagged, Parts, Fields, Either, NoPat, APat, names, names_all}
use Rattle.typed_tree.specs.Substitution.{Slots, pick, hide, count, put, put_all, put_cases, put_functions}
use Rattle.typed_tree.specs.Wants.{Want, Anything, Of, CellOf, FutureOf, KeptOf, Generic, in_function, Serves}
use Rattle.mo_soundness.specs.Keeps.{IsLonger, KnowsMore}
use Rattle.mo_soundness.specs.Lawful.{IsLawful}
use Rattle.mo_soundness.specs.RunningPatterns.{PatternTyped, PatternsTyped, BindsAt}
use Rattle.mo_soundness.specs.Running.{Around, context, in_sort, still, NameServes, Jumps, Acts, Does, AnswerTypes, HasValue, HaveValues, Typed, EachTyped, OfEmpty, CasesTyped, FunctionsTyped}
use Rattle.mo_soundness.specs.Worlds.{World}
use Rattle.mo_soundness.proofs.Less.{has_sub}
use Rattle.mo_soundness.proofs.More.{callable_map, has_grow}

module _ (world : World) where
  -- an action looks at no name
  pub action_put : (a : Action) (s : Sort) (ws us : List (Want TypeId)) (ls : List TypeId) (as_ : List (Want TypeId)) (g : Want TypeId) → Acts world (context s (record { names = ws; labels = ls })) a as_ g → Acts world (context s (record { names = us; labels = ls })) a as_ g
  action_put (action.Operate o) s ws us ls as_ g h = h
  action_put (action.BuiltIn m) s ws us ls as_ g h = h
  action_put action.New s ws us ls as_ g h = h
  action_put action.Read s ws us ls as_ g h = h
  action_put action.Write s ws us ls as_ g h = h
  action_put action.WriteElement s ws us ls as_ g h = h
  action_put action.Print s ws us ls as_ g h = h
  action_put action.Throw s ws us ls as_ g h = h
  action_put action.Call s ws us ls as_ g h = h
  action_put (action.Send ps rs) s ws us ls as_ g h = h
  action_put action.Await s ws us ls as_ g h = h
  action_put (action.Break l) s ws us ls as_ g h = h
  action_put (action.Unwrap l) s ws us ls as_ g h = h

  -- each name of a pattern has its want
  mutual
    pub pattern_names : (p : Pat) (t : TypeId) (ns : List (Want TypeId)) → PatternTyped world.head p t ns → length ns ≡ names p
    pattern_names Wildcard t ns h = ap length h
    pattern_names Bind t ns h = ap length h.2
    pattern_names (Constant k) t ns h = ap length h.4
    pattern_names (Present? p) t ns h = pattern_names p h.1 ns h.4
    pattern_names (Tagged l p) t ns h = pattern_names p h.2.part ns h.6
    pattern_names (Parts ps) t ns h = patterns_names ps h.1 ns h.4
    pattern_names (Fields ls ps) t ns h = patterns_names ps h.2 ns h.6
    pattern_names (Either p q) t ns h = ap length h.4

    pub patterns_names : (ps : Pats) (ts : List TypeId) (ns : List (Want TypeId)) → PatternsTyped world.head ps ts ns → length ns ≡ names_all ps
    patterns_names NoPat [] ns h = ap length h
    patterns_names NoPat (t ∷ ts) ns h = absurd h
    patterns_names (APat p ps) [] ns h = absurd h
    patterns_names (APat p ps) (t ∷ ts) ns h = ap length h.2 ∙ length-append h.0 h.1 ∙ ap₂ (λ x y. x + y) (pattern_names p t h.0 h.3) (patterns_names ps ts h.1 h.4)

  pub binds_names : (p : Pat) (a : Want TypeId) (ns : List (Want TypeId)) → BindsAt world.head p a ns → length ns ≡ names p
  binds_names p (Of t) ns h = pattern_names p t ns h
  binds_names Wildcard a ns h = ap length h
  binds_names Bind a ns h = ap length h
  binds_names (Constant c) (KeptOf t) ns h = ap length h.1
  binds_names (Present? Bind) (KeptOf t) ns h = ap length h
  binds_names p a ns h = absurd h

  module _ (answers : AnswerTypes) where
    jumps_put : (a : Action) (ws us : List (Want TypeId)) (ls : List TypeId) (as_ : List (Want TypeId)) → Jumps world.head answers (record { names = ws; labels = ls }) a as_ → Jumps world.head answers (record { names = us; labels = ls }) a as_
    jumps_put (action.Break l) ws us ls as_ h = h
    jumps_put action.Throw ws us ls as_ h = h
    jumps_put a ws us ls as_ h = absurd h

    does_put : (a : Action) (ws us : List (Want TypeId)) (ls : List TypeId) (as_ : List (Want TypeId)) (w : Want TypeId) → Does world answers (record { names = ws; labels = ls }) a as_ w → Does world answers (record { names = us; labels = ls }) a as_ w
    does_put a ws us ls as_ w (inl h) = inl (h.0, h.1, action_put a (in_sort h.0 answers.may_call) ws us ls as_ h.1 h.2, h.3)
    does_put a ws us ls as_ w (inr h) = inr (jumps_put a ws us ls as_ h)

    functions_count : (kinds : List TypeId) (c : Around) (fns : Functions) (ws : List (Want TypeId)) → FunctionsTyped world answers kinds c fns ws → length ws ≡ count fns
    functions_count kinds c NoFunction [] h = refl
    functions_count kinds c NoFunction (w ∷ ws) h = absurd h
    functions_count kinds c (AFunction how n ps body fns) [] h = absurd h
    functions_count kinds c (AFunction how n ps body fns) (w ∷ ws) h = ap suc (functions_count kinds c fns ws h.1)

    -- what stands in the place of a name; a function with type parameters has each of its types
    abbrev pub NameFits : List TypeId → Want TypeId → Value → Type 0
    NameFits kinds (Generic vs t) v = (u : TypeId) → world.Instance vs t u → HasValue world answers kinds (Of u) v
    NameFits kinds w v = HasValue world answers kinds w v

    pub named : (kinds : List TypeId) (w : Want TypeId) (v : Value) → HasValue world answers kinds w v → NameFits kinds w v
    named kinds (Generic vs t) v h = absurd h
    named kinds w v h = h

    module _ (lawful : IsLawful world.head) (kinds : List TypeId) where
      fits_generic : (vs : List ℕ) (t : TypeId) (w : Want TypeId) (v : Value) → NameFits kinds (Generic vs t) v → ((w ≡ Anything) ⊎ ((u : TypeId) × world.Instance vs t u × Serves world.head (Of u) w)) → HasValue world answers kinds w v
      fits_generic vs t w v f (inl e) = subst (λ w. HasValue world answers kinds w v) (sym e) tt
      fits_generic vs t w v f (inr h) = has_sub world lawful answers kinds v (Of h.0) w (f h.0 h.1) h.2

      fits_use : (a w : Want TypeId) (v : Value) → NameFits kinds a v → NameServes world a w → HasValue world answers kinds w v
      fits_use (Generic vs t) w v f s = fits_generic vs t w v f s
      fits_use a w v f s = has_sub world lawful answers kinds v a w f s

      -- the slots have values for the outer names, and the inner names stay
      abbrev pub Covers : Slots → List (Want TypeId) → List (Want TypeId) → Type 0
      Covers [] [] us = us ≡ []
      Covers [] (w ∷ ws) us = ⊥
      Covers (o ∷ s) [] us = ⊥
      Covers (None ∷ s) (w ∷ ws) [] = ⊥
      Covers (None ∷ s) (w ∷ ws) (u ∷ us) = (w ≡ u) × Covers s ws us
      Covers (Some v ∷ s) (w ∷ ws) us = (us ≡ []) × NameFits kinds w v × Covers s ws []

      pub covers_hide : (ns : List (Want TypeId)) (n : ℕ) (s : Slots) (ws us : List (Want TypeId)) → length ns ≡ n → Covers s ws us → Covers (hide n s) (ns ++ ws) (ns ++ us)
      covers_hide [] zero s ws us e h = h
      covers_hide [] (suc n) s ws us e h = absurd (omega (arith, e))
      covers_hide (w ∷ ns) zero s ws us e h = absurd (omega (arith, e))
      covers_hide (w ∷ ns) (suc n) s ws us e h = (refl, covers_hide ns n s ws us (omega (arith, e)) h)

      -- in the body of a function no more is asked
      pub weaker : (w : Want TypeId) (v : Value) → NameFits kinds w v → NameFits kinds (in_function w) v
      weaker (FutureOf t) v h = tt
      weaker Anything v h = h
      weaker (Of t) v h = h
      weaker (CellOf t) v h = h
      weaker (KeptOf t) v h = h
      weaker (Generic vs t) v h = h

      pub covers_function : (s : Slots) (ws us : List (Want TypeId)) → Covers s ws us → Covers s (map in_function ws) (map in_function us)
      covers_function [] [] us h = ap (λ us. map in_function us) h
      covers_function [] (w ∷ ws) us h = absurd h
      covers_function (o ∷ s) [] us h = absurd h
      covers_function (None ∷ s) (w ∷ ws) [] h = absurd h
      covers_function (None ∷ s) (w ∷ ws) (u ∷ us) h = (ap in_function h.0, covers_function s ws us h.1)
      covers_function (Some v ∷ s) (w ∷ ws) us h = (ap (λ us. map in_function us) h.0, weaker w v h.1, covers_function s ws [] h.2)

      pick_typed : (s : Slots) (ws us all : List (Want TypeId)) (labels : List TypeId) (n x : ℕ) (a w : Want TypeId) → Covers s ws us → slice_get ws n ≡ Some a → NameServes world a w
          → ((b : Want TypeId) → slice_get us n ≡ Some b → slice_get all x ≡ Some b) → Typed world answers kinds (record { names = all; labels = labels }) (pick s n x) w
      pick_typed [] [] us all labels n x a w c e b f = absurd cc
      pick_typed [] (k ∷ ws) us all labels n x a w c e b f = absurd c
      pick_typed (o ∷ s) [] us all labels n x a w c e b f = absurd c
      pick_typed (None ∷ s) (k ∷ ws) [] all labels n x a w c e b f = absurd c
      pick_typed (None ∷ s) (k ∷ ws) (d ∷ us) all labels zero x a w c e b f = let same : d ≡ a = cc in (a, f a (ap Some same), b)
      pick_typed (None ∷ s) (k ∷ ws) (d ∷ us) all labels (suc n) x a w c e b f = pick_typed s ws us all labels n x a w c.1 e b f
      pick_typed (Some v ∷ s) (k ∷ ws) us all labels zero x a w c e b f =
          let same : k ≡ a = cc in fits_use a w v (subst (λ k. NameFits kinds k v) same c.1) b
      pick_typed (Some v ∷ s) (k ∷ ws) us all labels (suc n) x a w c e b f = pick_typed s ws [] all labels n x a w c.2 e b (λ b h. absurd cc)

module _ (world : World) where
  -- ---- where no calls may be made, a value has its types still

  mutual
    pub has_still : (answers : AnswerTypes) (kinds : List TypeId) (v : Value) (w : Want TypeId) → HasValue world answers kinds w v → HasValue world (still answers) kinds w v
    has_still answers kinds v Anything h = tt
    has_still answers kinds (Made k inner) (Of t) h = (h.0, have_still answers kinds inner (wants k (world.head t) (count_values (shapes_of inner))) h.1)
    has_still answers kinds (Function group which) (Of t) h = callable_map (world.head t) _ _ (λ p. (p.0, p.1, functions_still answers kinds (record { names = p.0; labels = [] }) group p.0 p.2, p.3, p.4)) h
    has_still answers kinds (BuiltIn m holds) (Of t) h = callable_map (world.head t) _ _ (λ p. (p.0, p.1, p.2, have_still answers kinds holds p.0 p.3, p.4)) h
    has_still answers kinds (Made (Cell at) NoValue) (CellOf t) h = h
    has_still answers kinds (Made (Future call) NoValue) (FutureOf t) h = h
    has_still answers kinds (Made (Leaf part.Null) NoValue) (KeptOf t) h = tt
    has_still answers kinds (Made Present inner) (KeptOf t) h = have_still answers kinds inner (Of t ∷ []) h
    has_still answers kinds v (CellOf t) h = absurd h
    has_still answers kinds v (FutureOf t) h = absurd h
    has_still answers kinds v (KeptOf t) h = absurd h
    has_still answers kinds v (Generic vs t) h = absurd h

    have_still : (answers : AnswerTypes) (kinds : List TypeId) (vs : Values) (ws : List (Want TypeId)) → HaveValues world answers kinds ws vs → HaveValues world (still answers) kinds ws vs
    have_still answers kinds NoValue [] h = tt
    have_still answers kinds (AValue v vs) [] h = absurd h
    have_still answers kinds NoValue (w ∷ ws) h = absurd h
    have_still answers kinds (AValue v vs) (w ∷ ws) h = (has_still answers kinds v w h.0, have_still answers kinds vs ws h.1)

    functions_still : (answers : AnswerTypes) (kinds : List TypeId) (c : Around) (fns : Functions) (ws : List (Want TypeId)) → FunctionsTyped world answers kinds c fns ws → FunctionsTyped world (still answers) kinds c fns ws
    functions_still answers kinds c NoFunction [] h = tt
    functions_still answers kinds c NoFunction (w ∷ ws) h = absurd h
    functions_still answers kinds c (AFunction how n ps body fns) [] h = absurd h
    functions_still answers kinds c (AFunction how n ps body fns) (w ∷ ws) h = (h.0, functions_still answers kinds c fns ws h.1)

  name_still : (answers : AnswerTypes) (kinds : List TypeId) (w : Want TypeId) (v : Value) → NameFits world answers kinds w v → NameFits world (still answers) kinds w v
  name_still answers kinds (Generic vs t) v h = λ u i. has_still answers kinds v (Of u) (h u i)
  name_still answers kinds w v h = has_still answers kinds v w h

  pub name_grow : (answers later : AnswerTypes) (more : KnowsMore answers later) (ks ks' : List TypeId) (g : IsLonger ks ks') (w : Want TypeId) (v : Value) → NameFits world answers ks w v → NameFits world later ks' w v
  name_grow answers later more ks ks' g (Generic vs t) v h = λ u i. has_grow world answers later more ks ks' g v (Of u) (h u i)
  name_grow answers later more ks ks' g w v h = has_grow world answers later more ks ks' g v w h

  pub covers_still : (s : Slots) (ws us : List (Want TypeId)) (answers : AnswerTypes) (lawful : IsLawful world.head) (kinds : List TypeId) → Covers world answers lawful kinds s ws us → Covers world (still answers) lawful kinds s ws us
  covers_still [] [] us answers lawful kinds h = h
  covers_still [] (w ∷ ws) us answers lawful kinds h = absurd h
  covers_still (o ∷ s) [] us answers lawful kinds h = absurd h
  covers_still (None ∷ s) (w ∷ ws) [] answers lawful kinds h = absurd h
  covers_still (None ∷ s) (w ∷ ws) (u ∷ us) answers lawful kinds h = (h.0, covers_still s ws us answers lawful kinds h.1)
  covers_still (Some v ∷ s) (w ∷ ws) us answers lawful kinds h = (h.0, name_still answers kinds w v h.1, covers_still s ws [] answers lawful kinds h.2)

  abbrev In : AnswerTypes → List TypeId → List (Want TypeId) → List TypeId → Exp → Want TypeId → Type 0
  In answers kinds ns ls e w = Typed world answers kinds (record { names = ns; labels = ls }) e w

  mutual
    pub put_typed : (answers : AnswerTypes) (lawful : IsLawful world.head) (kinds : List TypeId) → (e : Exp) (s : Slots) (ws us : List (Want TypeId)) (ls : List TypeId) (w : Want TypeId) → Covers world answers lawful kinds s ws us → In answers kinds ws ls e w → In answers kinds us ls (put s e) w
    put_typed answers lawful kinds (Val v) s ws us ls w c h = h
    put_typed answers lawful kinds (Name x) s ws us ls w c h = pick_typed world answers lawful kinds s ws us us ls x x h.0 w c h.1 h.2 (λ b e. e)
    put_typed answers lawful kinds (Do a es) s ws us ls w c (inl h) = inl (h.0, does_put world answers a ws us ls h.0 w h.1, put_each answers lawful kinds es s ws us ls h.0 c h.2)
    put_typed answers lawful kinds (Do action.Throw (AnExp (Val v) NoExp)) s ws us ls w c (inr (inl h)) = inr (inl h)
    put_typed answers lawful kinds (Do a es) s ws us ls w c (inr (inl h)) = absurd h.0
    put_typed answers lawful kinds (Do a es) s ws us ls w c (inr (inr h)) = inr (inr (h.0, put_empty answers lawful kinds es s ws us ls c h.1))
    put_typed answers lawful kinds (If e a b) s ws us ls w c h = (h.0, h.1, put_typed answers lawful kinds e s ws us ls (Of h.0) c h.2, put_typed answers lawful kinds a s ws us ls w c h.3, put_typed answers lawful kinds b s ws us ls w c h.4)
    put_typed answers lawful kinds (Switch e cases) s ws us ls w c h = (h.0, put_typed answers lawful kinds e s ws us ls h.0 c h.1, put_cases_typed answers lawful kinds cases s ws us ls h.0 w c h.2)
    put_typed answers lawful kinds (Group fns b) s ws us ls w c h =
        let k = covers_hide world answers lawful kinds h.0 (count fns) s ws us (functions_count world answers kinds (record { names = h.0 ++ ws; labels = ls }) fns h.0 h.1) c in
        (h.0, put_functions_typed answers lawful kinds fns (hide (count fns) s) (h.0 ++ ws) (h.0 ++ us) ls h.0 k h.1, put_typed answers lawful kinds b (hide (count fns) s) (h.0 ++ ws) (h.0 ++ us) ls w k h.2)
    put_typed answers lawful kinds (Frame n e) s ws us ls w c h = (h.0, put_typed answers lawful kinds e s ws us (h.0 ∷ []) (Of h.0) c h.1, h.2)
    put_typed answers lawful kinds (Label e) s ws us ls w c h = (h.0, put_typed answers lawful kinds e s ws us (h.0 ∷ ls) (Of h.0) c h.1, h.2)
    put_typed answers lawful kinds (While e b) s ws us ls w c h = (h.0, h.1, h.2, h.3, put_typed answers lawful kinds e s ws us ls (Of h.0) c h.4, put_typed answers lawful kinds b s ws us ls (Of h.1) c h.5, h.6)
    put_typed answers lawful kinds (Repeat b e) s ws us ls w c h = (h.0, h.1, h.2, h.3, put_typed answers lawful kinds e s ws us ls (Of h.0) c h.4, put_typed answers lawful kinds b s ws us ls (Of h.1) c h.5, h.6)
    put_typed answers lawful kinds (For p e b) s ws us ls w c h =
        (h.0, h.1, h.2, h.3, h.4, h.5, put_typed answers lawful kinds e s ws us ls (Of h.0) c h.6, h.7, put_typed answers lawful kinds b (hide (names p) s) (h.3 ++ ws) (h.3 ++ us) ls (Of h.2) (covers_hide world answers lawful kinds h.3 (names p) s ws us (pattern_names world p h.1 h.3 h.7) c) h.8, h.9)
    put_typed answers lawful kinds (Try e p b) s ws us ls w c h =
        (h.0, h.1, h.2, put_typed answers lawful kinds e s ws us ls w c h.3, h.4, put_typed answers lawful kinds b (hide (names p) s) (h.1 ++ ws) (h.1 ++ us) ls w (covers_hide world answers lawful kinds h.1 (names p) s ws us (pattern_names world p h.0 h.1 h.4) c) h.5)
    put_typed answers lawful kinds (Update o e f) s ws us ls w c h = (h.0, h.1, h.2, h.3, h.4, h.5, put_typed answers lawful kinds e s ws us ls (CellOf h.0) c h.6, h.7, put_typed answers lawful kinds f s ws us ls h.4 c h.8, h.9, h.10, h.11)

    put_empty : (answers : AnswerTypes) (lawful : IsLawful world.head) (kinds : List TypeId) → (es : Exps) (s : Slots) (ws us : List (Want TypeId)) (ls : List TypeId) → Covers world answers lawful kinds s ws us → OfEmpty world answers kinds (record { names = ws; labels = ls }) es → OfEmpty world answers kinds (record { names = us; labels = ls }) (put_all s es)
    put_empty answers lawful kinds (AnExp (Val (Made Array NoValue)) es) s ws us ls c h = (h.0, h.1, put_each answers lawful kinds es s ws us ls (Of h.0 ∷ []) c h.2)
    put_empty answers lawful kinds es s ws us ls c h = absurd h

    pub put_each : (answers : AnswerTypes) (lawful : IsLawful world.head) (kinds : List TypeId) → (es : Exps) (s : Slots) (ws us : List (Want TypeId)) (ls : List TypeId) (as_ : List (Want TypeId)) → Covers world answers lawful kinds s ws us → EachTyped world answers kinds (record { names = ws; labels = ls }) es as_
        → EachTyped world answers kinds (record { names = us; labels = ls }) (put_all s es) as_
    put_each answers lawful kinds NoExp s ws us ls [] c h = tt
    put_each answers lawful kinds NoExp s ws us ls (a ∷ as_) c h = absurd h
    put_each answers lawful kinds (AnExp e es) s ws us ls [] c h = absurd h
    put_each answers lawful kinds (AnExp e es) s ws us ls (a ∷ as_) c h = (put_typed answers lawful kinds e s ws us ls a c h.0, put_each answers lawful kinds es s ws us ls as_ c h.1)

    pub put_cases_typed : (answers : AnswerTypes) (lawful : IsLawful world.head) (kinds : List TypeId) → (cases : Cases) (s : Slots) (ws us : List (Want TypeId)) (ls : List TypeId) (a w : Want TypeId) → Covers world answers lawful kinds s ws us → CasesTyped world answers kinds (record { names = ws; labels = ls }) cases a w
        → CasesTyped world answers kinds (record { names = us; labels = ls }) (put_cases s cases) a w
    put_cases_typed answers lawful kinds NoCase s ws us ls a w c h = tt
    put_cases_typed answers lawful kinds (ACase p e cases) s ws us ls a w c h =
        (h.0, h.1, put_typed answers lawful kinds e (hide (names p) s) (h.0 ++ ws) (h.0 ++ us) ls w (covers_hide world answers lawful kinds h.0 (names p) s ws us (binds_names world p a h.0 h.1) c) h.2, put_cases_typed answers lawful kinds cases s ws us ls a w c h.3)

    pub put_functions_typed : (answers : AnswerTypes) (lawful : IsLawful world.head) (kinds : List TypeId) → (fns : Functions) (s : Slots) (ws us : List (Want TypeId)) (ls : List TypeId) (as_ : List (Want TypeId)) → Covers world answers lawful kinds s ws us → FunctionsTyped world answers kinds (record { names = ws; labels = ls }) fns as_
        → FunctionsTyped world answers kinds (record { names = us; labels = ls }) (put_functions s fns) as_
    put_functions_typed answers lawful kinds NoFunction s ws us ls [] c h = tt
    put_functions_typed answers lawful kinds NoFunction s ws us ls (a ∷ as_) c h = absurd h
    put_functions_typed answers lawful kinds (AFunction how n ps body fns) s ws us ls [] c h = absurd h
    put_functions_typed answers lawful kinds (AFunction how n ps body fns) s ws us ls (a ∷ as_) c h = (
      λ i. let f = h.0 i in (
        f.0,
        f.1,
        f.2,
        f.3,
        f.4,
        put_typed (still answers) lawful kinds body (hide (names_all ps) s) (f.2 ++ map in_function ws) (f.2 ++ map in_function us) (f.1 ∷ []) (Of f.1)
            (covers_hide world (still answers) lawful kinds f.2 (names_all ps) s (map in_function ws) (map in_function us) (patterns_names world ps f.0 f.2 f.4) (covers_function world (still answers) lawful kinds s ws us (covers_still s ws us answers lawful kinds c))) f.5,
      ),
      put_functions_typed answers lawful kinds fns s ws us ls as_ c h.1,
    )
