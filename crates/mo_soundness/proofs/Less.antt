-- Typed expressions stay typed where less is asked of them.
use Rattle.std.proofs.Common.{◌≡◌, ◌⊎◌, inl, inr, ℕ, List, [], ◌∷◌, Option, Some, None, refl, sym, subst, slice_get}
use Rattle.mo_types.specs.declared.datum.Datum.TheVariants as part
use Rattle.mo_types.specs.declared.node.TypeId.{TypeId}
use Rattle.mo_types.specs.Sub.{AtSome}
use Rattle.mo_types.specs.Values.{copies}
use Rattle.mo_values.specs.Messages.{count}
use Rattle.mo_values.specs.Shapes.{Leaf, Present, Cell, Future}
use Rattle.typed_tree.specs.declared.action.Action.{Action}
use Rattle.typed_tree.specs.Has.{wants}
use Rattle.typed_tree.specs.Language.{Value, Values, Exp, Cases, Made, Function, BuiltIn, NoValue, AValue, Val, Name, Do, If, Switch, Group, Frame, Label, While, Repeat, For, Try, Update, NoCase, ACase}
use Rattle.typed_tree.specs.Opening.{shapes_of}
use Rattle.typed_tree.specs.Wants.{Want, Anything, Of, CellOf, FutureOf, KeptOf, Generic, Below, Equal, Serves}
use Rattle.mo_soundness.specs.Lawful.{IsLawful}
use Rattle.mo_soundness.specs.Running.{Around, NameServes, Does, with_names, AnswerTypes, HasValue, HaveValues, Typed, CasesTyped}
use Rattle.mo_soundness.specs.Worlds.{World}
use Rattle.mo_soundness.proofs.Wanted.{transitive, equal_trans, serves_trans, ServeAll, above, callable_up}

module _ (world : World) (lawful : IsLawful world.head) (answers : AnswerTypes) (kinds : List TypeId) where
  abbrev Has : Want TypeId → Value → Type 0
  Has = HasValue world answers kinds

  abbrev Have : List (Want TypeId) → Values → Type 0
  Have = HaveValues world answers kinds

  all_anything : (vs : Values) → Have (copies (count (shapes_of vs)) Anything) vs
  all_anything NoValue = tt
  all_anything (AValue v vs) = (tt, all_anything vs)

  cell_sub : (o : Option TypeId) (t u : TypeId) → AtSome o (λ k. Equal world.head t k) → Equal world.head t u → AtSome o (λ k. Equal world.head u k)
  cell_sub None t u h s = h
  cell_sub (Some k) t u h s = equal_trans world.head lawful u t k (s.1, s.0) h

  future_sub : (o : Option TypeId) (t u : TypeId) → AtSome o (λ k. Below world.head k t) → Below world.head t u → AtSome o (λ k. Below world.head k u)
  future_sub None t u h s = h
  future_sub (Some k) t u h s = transitive world.head lawful k t u h s

  mutual
    pub has_sub : (v : Value) (w u : Want TypeId) → Has w v → Serves world.head w u → Has u v
    has_sub v w Anything h s = tt
    has_sub (Made k inner) (Of t) (Of u) h s =
        let a = above world.head lawful answers k (count (shapes_of inner)) t u s h.0 in
        (a.0, has_inside inner (wants k (world.head t) (count (shapes_of inner))) (wants k (world.head u) (count (shapes_of inner))) h.1 a.1)
    has_sub (Function group which) (Of t) (Of u) h s = callable_up world.head lawful t u _ _ s (λ p. (p.0, p.1, p.2, p.3, transitive world.head lawful p.1 t u p.4 s)) h
    has_sub (BuiltIn m holds) (Of t) (Of u) h s = callable_up world.head lawful t u _ _ s (λ p. (p.0, p.1, p.2, p.3, transitive world.head lawful p.1 t u p.4 s)) h
    has_sub (Made (Cell at) NoValue) (CellOf t) (CellOf u) h s = cell_sub (slice_get kinds at) t u h s
    has_sub (Made (Future call) NoValue) (FutureOf t) (FutureOf u) h s = future_sub (answers.types call) t u h s
    has_sub (Made (Leaf part.Null) NoValue) (KeptOf t) (KeptOf u) h s = tt
    has_sub (Made Present (AValue v vs)) (KeptOf t) (KeptOf u) h s = (has_sub v (Of t) (Of u) h.0 s.0, h.1)
    has_sub v (Generic vs t) u h s = absurd h
    has_sub v Anything (Of u) h s = absurd s
    has_sub v Anything (CellOf u) h s = absurd s
    has_sub v Anything (FutureOf u) h s = absurd s
    has_sub v Anything (KeptOf u) h s = absurd s
    has_sub v Anything (Generic us u) h s = absurd s
    has_sub v (Of t) (CellOf u) h s = absurd s
    has_sub v (Of t) (FutureOf u) h s = absurd s
    has_sub v (Of t) (KeptOf u) h s = absurd s
    has_sub v (Of t) (Generic us u) h s = absurd s
    has_sub v (CellOf t) (Of u) h s = absurd s
    has_sub v (CellOf t) (FutureOf u) h s = absurd s
    has_sub v (CellOf t) (KeptOf u) h s = absurd s
    has_sub v (CellOf t) (Generic us u) h s = absurd s
    has_sub v (FutureOf t) (Of u) h s = absurd s
    has_sub v (FutureOf t) (CellOf u) h s = absurd s
    has_sub v (FutureOf t) (KeptOf u) h s = absurd s
    has_sub v (FutureOf t) (Generic us u) h s = absurd s
    has_sub v (KeptOf t) (Of u) h s = absurd s
    has_sub v (KeptOf t) (CellOf u) h s = absurd s
    has_sub v (KeptOf t) (FutureOf u) h s = absurd s
    has_sub v (KeptOf t) (Generic us u) h s = absurd s
    has_sub v (CellOf t) (CellOf u) h s = absurd h
    has_sub v (FutureOf t) (FutureOf u) h s = absurd h
    has_sub v (KeptOf t) (KeptOf u) h s = absurd h

    has_inside : (vs : Values) (ws us : List (Want TypeId)) → Have ws vs → ((us ≡ copies (count (shapes_of vs)) Anything) ⊎ ServeAll world.head lawful ws us) → Have us vs
    has_inside vs ws us h (inl e) = subst (λ us. Have us vs) (sym e) (all_anything vs)
    has_inside NoValue [] [] h (inr s) = tt
    has_inside NoValue [] (u ∷ us) h (inr s) = absurd s
    has_inside NoValue (w ∷ ws) us h (inr s) = absurd h
    has_inside (AValue v vs) [] us h (inr s) = absurd h
    has_inside (AValue v vs) (w ∷ ws) [] h (inr s) = absurd s
    has_inside (AValue v vs) (w ∷ ws) (u ∷ us) h (inr s) = (has_sub v w u h.0 s.0, has_inside vs ws us h.1 (inr s.1))

  any_above : (u : Want TypeId) → Serves world.head Anything u → u ≡ Anything
  any_above Anything s = refl
  any_above u s = absurd s

  generic_sub : (vs : List ℕ) (t : TypeId) (w u : Want TypeId) → Serves world.head w u → ((w ≡ Anything) ⊎ ((r : TypeId) × world.Instance vs t r × Serves world.head (Of r) w)) → (u ≡ Anything) ⊎ ((r : TypeId) × world.Instance vs t r × Serves world.head (Of r) u)
  generic_sub vs t w u s (inl e) = inl (any_above u (subst (λ w. Serves world.head w u) e s))
  generic_sub vs t w u s (inr h) = inr (h.0, h.1, serves_trans world.head lawful (Of h.0) w u h.2 s)

  name_sub : (a w u : Want TypeId) → NameServes world a w → Serves world.head w u → NameServes world a u
  name_sub (Generic vs t) w u h s = generic_sub vs t w u s h
  name_sub a w u h s = serves_trans world.head lawful a w u h s

  does_sub : (c : Around) (a : Action) (ws : List (Want TypeId)) (w u : Want TypeId) → Does world answers c a ws w → Serves world.head w u → Does world answers c a ws u
  does_sub c a ws w u (inl h) s = inl (h.0, h.1, h.2, serves_trans world.head lawful h.1 w u h.3 s)
  does_sub c a ws w u (inr h) s = inr h

  mutual
    pub typed_sub : (c : Around) (e : Exp) (w u : Want TypeId) → Typed world answers kinds c e w → Serves world.head w u → Typed world answers kinds c e u
    typed_sub c (Val v) w u h s = has_sub v w u h s
    typed_sub c (Name x) w u h s = (h.0, h.1, name_sub h.0 w u h.2 s)
    typed_sub c (Do a es) w u (inl h) s = inl (h.0, does_sub c a h.0 w u h.1 s, h.2)
    typed_sub c (Do a es) w u (inr h) s = inr h
    typed_sub c (If e a b) w u h s = (h.0, h.1, h.2, typed_sub c a w u h.3 s, typed_sub c b w u h.4 s)
    typed_sub c (Switch e cases) w u h s = (h.0, h.1, cases_sub c cases h.0 w u h.2 s)
    typed_sub c (Group fns b) w u h s = (h.0, h.1, typed_sub (with_names h.0 c) b w u h.2 s)
    typed_sub c (Frame n e) w u h s = (h.0, h.1, serves_trans world.head lawful (Of h.0) w u h.2 s)
    typed_sub c (Label e) w u h s = (h.0, h.1, serves_trans world.head lawful (Of h.0) w u h.2 s)
    typed_sub c (While e b) w u h s = (h.0, h.1, h.2, h.3, h.4, h.5, serves_trans world.head lawful (Of h.1) w u h.6 s)
    typed_sub c (Repeat b e) w u h s = (h.0, h.1, h.2, h.3, h.4, h.5, serves_trans world.head lawful (Of h.1) w u h.6 s)
    typed_sub c (For p e b) w u h s = (h.0, h.1, h.2, h.3, h.4, h.5, h.6, h.7, h.8, serves_trans world.head lawful (Of h.2) w u h.9 s)
    typed_sub c (Try e p b) w u h s = (h.0, h.1, h.2, typed_sub c e w u h.3 s, h.4, typed_sub (with_names h.1 c) b w u h.5 s)
    typed_sub c (Update o e f) w u h s = (h.0, h.1, h.2, h.3, h.4, h.5, h.6, h.7, h.8, h.9, h.10, serves_trans world.head lawful (Of h.1) w u h.11 s)

    cases_sub : (c : Around) (cases : Cases) (a w u : Want TypeId) → CasesTyped world answers kinds c cases a w → Serves world.head w u → CasesTyped world answers kinds c cases a u
    cases_sub c NoCase a w u h s = tt
    cases_sub c (ACase p e cases) a w u h s = (h.0, h.1, typed_sub (with_names h.0 c) e w u h.2 s, cases_sub c cases a w u h.3 s)
