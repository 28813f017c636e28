-- What is typed stays typed where there are more cells, and where more calls are under way.
use Rattle.std.proofs.Common.{◌≡◌, inl, inr, ℕ, zero, suc, List, [], ◌∷◌, ◌++◌, Bool, true, false, true≢false, Option, Some, None, refl, sym, ap, subst, slice_get}
use Rattle.mo_types.specs.declared.datum.Datum.TheVariants as part
use Rattle.mo_types.specs.declared.node.Node.{Node}
use Rattle.mo_types.specs.declared.node.Node.TheVariants as node
use Rattle.mo_types.specs.declared.node.Sort.{Sort}
use Rattle.mo_types.specs.declared.node.Sort.TheVariants as sort
use Rattle.mo_types.specs.declared.node.TypeId.{TypeId}
use Rattle.mo_types.specs.Heads.{async_of}
use Rattle.mo_types.specs.Sub.{AtSome}
use Rattle.mo_values.specs.Messages.{count}
use Rattle.mo_values.specs.Shapes.{Head, Leaf, Present, Tuple, Array, Object, Tag, Error, Cell, Future}
use Rattle.typed_tree.specs.declared.action.Action.{Action}
use Rattle.typed_tree.specs.declared.action.Action.TheVariants as action
use Rattle.typed_tree.specs.Has.{RootOf, wants}
use Rattle.typed_tree.specs.Language.{Value, Values, Exp, Exps, Cases, Functions, Made, Function, BuiltIn, NoValue, AValue, Val, Name, Do, If, Switch, Group, Frame, Label, While, Repeat, For, Try, Update, NoExp, AnExp, NoCase, ACase, NoFunction, AFunction}
use Rattle.typed_tree.specs.Opening.{shapes_of}
use Rattle.typed_tree.specs.Wants.{Want, Anything, Of, CellOf, FutureOf, KeptOf, Generic, Below, Equal}
use Rattle.mo_soundness.specs.Keeps.{IsLonger, KnowsMore}
use Rattle.mo_soundness.specs.Running.{Around, context, in_sort, still, Jumps, Acts, Does, with_names, with_label, in_body, AnswerTypes, Callable, Answers, plain, Fits, HasValue, HaveValues, Typed, EachTyped, OfEmpty, CasesTyped, FunctionsTyped, StoreTyped}
use Rattle.mo_soundness.specs.Worlds.{World}

pub append_nil : {A : Type 0} (l : List A) → l ++ [] ≡ l
append_nil [] = refl
append_nil (x ∷ l) = ap (λ r. x ∷ r) (append_nil l)

pub longer_self : (ks : List TypeId) → IsLonger ks ks
longer_self ks = ([], sym (append_nil ks))

pub knows_self : (answers : AnswerTypes) → KnowsMore answers answers
knows_self answers = (λ n t e. e, λ e. e)

-- a body in which no calls may be made is one of a function that is no shared one
same_sort : (s : Sort) (b d : Bool) → (b ≡ true → d ≡ true) → in_sort s b ≡ in_sort (in_sort s b) d
same_sort sort.Local b d h = refl
same_sort sort.Shared true d h = ap (in_sort sort.Shared) (sym (h refl))
same_sort sort.Shared false d h = refl
same_sort sort.Query true d h = ap (in_sort sort.Query) (sym (h refl))
same_sort sort.Query false d h = refl

get_front : (ks more : List TypeId) (n : ℕ) (P : TypeId → Type 0) → AtSome (slice_get ks n) P → AtSome (slice_get (ks ++ more) n) P
get_front [] more n P h = absurd h
get_front (k ∷ ks) more zero P h = h
get_front (k ∷ ks) more (suc n) P h = get_front ks more n P h

pub callable_map : (x : Node TypeId) (P Q : Type 0) → (P → Q) → Callable x P → Callable x Q
callable_map node.Any P Q f c = tt
callable_map (node.Func sort.Local ps rs) P Q f c = f c
callable_map x P Q f c = absurd c

module _ (world : World) (answers later : AnswerTypes) (more_answers : KnowsMore answers later) (ks ks' : List TypeId) (g : IsLonger ks ks') where
  answer_later : (call : ℕ) (P : TypeId → Type 0) → AtSome (answers.types call) P → AtSome (later.types call) P
  answer_later call P h = by (answers.types call) refl h
    where
      by : (o : Option TypeId) → answers.types call ≡ o → AtSome o P → AtSome (later.types call) P
      by None e h = absurd h
      by (Some t) e h = subst (λ o. AtSome o P) (sym (more_answers.0 call t e)) h

  async_later : (call : ℕ) (o : Option TypeId) → AtSome o (λ t. Answers world.head answers call t) → AtSome o (λ t. Answers world.head later call t)
  async_later call None h = h
  async_later call (Some t) h = answer_later call (λ u. Below world.head u t) h

  root_later : (x : Node TypeId) (h : Head) → RootOf world.head (plain world.head answers) [] x h → RootOf world.head (plain world.head later) [] x h
  root_later x (Leaf p) r = r
  root_later x Present r = r
  root_later x Tuple r = r
  root_later x Array r = r
  root_later x (Object ls) r = r
  root_later x (Tag l) r = r
  root_later x (Error c m) r = r
  root_later x (Cell at) r = r
  root_later x (Future call) r = async_later call (async_of x) r

  fits_later : (x : Node TypeId) (h : Head) → Fits world.head answers x h → Fits world.head later x h
  fits_later node.Any h f = f
  fits_later (node.Variable v b) h f = absurd f
  fits_later x h f = root_later x h f

  jumps_later : (c : Around) (a : Action) (ws : List (Want TypeId)) → Jumps world.head answers c a ws → Jumps world.head later c a ws
  jumps_later c (action.Break l) ws h = h
  jumps_later c action.Throw ws h = (h.0, h.1, h.2, more_answers.1 h.3)
  jumps_later c a ws h = absurd h

  does_later : (c : Around) (a : Action) (ws : List (Want TypeId)) (w : Want TypeId) → Does world answers c a ws w → Does world later c a ws w
  does_later c a ws w (inl h) = inl (in_sort h.0 answers.may_call, h.1, subst (λ s. Acts world (context s c) a ws h.1) (same_sort h.0 answers.may_call later.may_call more_answers.1) h.2, h.3)
  does_later c a ws w (inr h) = inr (jumps_later c a ws h)

-- where no calls may be made
pub still_more : (answers later : AnswerTypes) → KnowsMore answers later → KnowsMore (still answers) (still later)
still_more answers later more = (λ n t e. more.0 n t e, λ e. e)

pub knows_still : (answers : AnswerTypes) → KnowsMore (still answers) answers
knows_still answers = (λ n t e. e, λ e. absurd (true≢false (sym e)))

module _ (world : World) where
  mutual
    pub has_grow : (answers later : AnswerTypes) (more : KnowsMore answers later) (ks ks' : List TypeId) (g : IsLonger ks ks') → (v : Value) (w : Want TypeId) → HasValue world answers ks w v → HasValue world later ks' w v
    has_grow answers later more ks ks' g v Anything h = tt
    has_grow answers later more ks ks' g (Made k inner) (Of t) h = (fits_later world answers later more ks ks' g (world.head t) k h.0, have_grow answers later more ks ks' g inner (wants k (world.head t) (count (shapes_of inner))) h.1)
    has_grow answers later more ks ks' g (Function group which) (Of t) h = callable_map (world.head t) _ _ (λ p. (p.0, p.1, functions_grow answers later more ks ks' g (record { names = p.0; labels = [] }) group p.0 p.2, p.3, p.4)) h
    has_grow answers later more ks ks' g (BuiltIn m holds) (Of t) h = callable_map (world.head t) _ _ (λ p. (p.0, p.1, p.2, have_grow answers later more ks ks' g holds p.0 p.3, p.4)) h
    has_grow answers later more ks ks' g (Made (Cell at) NoValue) (CellOf t) h = subst (λ l. AtSome (slice_get l at) (λ u. Equal world.head t u)) (sym g.1) (get_front ks g.0 at (λ u. Equal world.head t u) h)
    has_grow answers later more ks ks' g (Made (Future call) NoValue) (FutureOf t) h = answer_later world answers later more ks ks' g call (λ u. Below world.head u t) h
    has_grow answers later more ks ks' g (Made (Leaf part.Null) NoValue) (KeptOf t) h = tt
    has_grow answers later more ks ks' g (Made Present inner) (KeptOf t) h = have_grow answers later more ks ks' g inner (Of t ∷ []) h
    has_grow answers later more ks ks' g v (CellOf t) h = absurd h
    has_grow answers later more ks ks' g v (FutureOf t) h = absurd h
    has_grow answers later more ks ks' g v (KeptOf t) h = absurd h
    has_grow answers later more ks ks' g v (Generic vs t) h = absurd h

    pub have_grow : (answers later : AnswerTypes) (more : KnowsMore answers later) (ks ks' : List TypeId) (g : IsLonger ks ks') → (vs : Values) (ws : List (Want TypeId)) → HaveValues world answers ks ws vs → HaveValues world later ks' ws vs
    have_grow answers later more ks ks' g NoValue [] h = tt
    have_grow answers later more ks ks' g (AValue v vs) [] h = absurd h
    have_grow answers later more ks ks' g NoValue (w ∷ ws) h = absurd h
    have_grow answers later more ks ks' g (AValue v vs) (w ∷ ws) h = (has_grow answers later more ks ks' g v w h.0, have_grow answers later more ks ks' g vs ws h.1)

    pub typed_grow : (answers later : AnswerTypes) (more : KnowsMore answers later) (ks ks' : List TypeId) (g : IsLonger ks ks') → (c : Around) (e : Exp) (w : Want TypeId) → Typed world answers ks c e w → Typed world later ks' c e w
    typed_grow answers later more ks ks' g c (Val v) w h = has_grow answers later more ks ks' g v w h
    typed_grow answers later more ks ks' g c (Name x) w h = h
    typed_grow answers later more ks ks' g c (Do a es) w (inl h) = inl (h.0, does_later world answers later more ks ks' g c a h.0 w h.1, each_grow answers later more ks ks' g c es h.0 h.2)
    typed_grow answers later more ks ks' g c (Do a es) w (inr (inl h)) = inr (inl (h.0, more.1 h.1))
    typed_grow answers later more ks ks' g c (Do a es) w (inr (inr h)) = inr (inr (h.0, empty_grow answers later more ks ks' g c es h.1))
    typed_grow answers later more ks ks' g c (If e a b) w h = (h.0, h.1, typed_grow answers later more ks ks' g c e (Of h.0) h.2, typed_grow answers later more ks ks' g c a w h.3, typed_grow answers later more ks ks' g c b w h.4)
    typed_grow answers later more ks ks' g c (Switch e cases) w h = (h.0, typed_grow answers later more ks ks' g c e h.0 h.1, cases_grow answers later more ks ks' g c cases h.0 w h.2)
    typed_grow answers later more ks ks' g c (Group fns b) w h = (h.0, functions_grow answers later more ks ks' g (with_names h.0 c) fns h.0 h.1, typed_grow answers later more ks ks' g (with_names h.0 c) b w h.2)
    typed_grow answers later more ks ks' g c (Frame n e) w h = (h.0, typed_grow answers later more ks ks' g (record { names = c.names; labels = h.0 ∷ [] }) e (Of h.0) h.1, h.2)
    typed_grow answers later more ks ks' g c (Label e) w h = (h.0, typed_grow answers later more ks ks' g (with_label h.0 c) e (Of h.0) h.1, h.2)
    typed_grow answers later more ks ks' g c (While e b) w h = (h.0, h.1, h.2, h.3, typed_grow answers later more ks ks' g c e (Of h.0) h.4, typed_grow answers later more ks ks' g c b (Of h.1) h.5, h.6)
    typed_grow answers later more ks ks' g c (Repeat b e) w h = (h.0, h.1, h.2, h.3, typed_grow answers later more ks ks' g c e (Of h.0) h.4, typed_grow answers later more ks ks' g c b (Of h.1) h.5, h.6)
    typed_grow answers later more ks ks' g c (For p e b) w h = (h.0, h.1, h.2, h.3, h.4, h.5, typed_grow answers later more ks ks' g c e (Of h.0) h.6, h.7, typed_grow answers later more ks ks' g (with_names h.3 c) b (Of h.2) h.8, h.9)
    typed_grow answers later more ks ks' g c (Try e p b) w h = (h.0, h.1, h.2, typed_grow answers later more ks ks' g c e w h.3, h.4, typed_grow answers later more ks ks' g (with_names h.1 c) b w h.5)
    typed_grow answers later more ks ks' g c (Update o e f) w h = (h.0, h.1, h.2, h.3, h.4, h.5, typed_grow answers later more ks ks' g c e (CellOf h.0) h.6, h.7, typed_grow answers later more ks ks' g c f h.4 h.8, h.9, h.10, h.11)

    empty_grow : (answers later : AnswerTypes) (more : KnowsMore answers later) (ks ks' : List TypeId) (g : IsLonger ks ks') → (c : Around) (es : Exps) → OfEmpty world answers ks c es → OfEmpty world later ks' c es
    empty_grow answers later more ks ks' g c (AnExp (Val (Made Array NoValue)) es) h = (h.0, h.1, each_grow answers later more ks ks' g c es (Of h.0 ∷ []) h.2)
    empty_grow answers later more ks ks' g c es h = absurd h

    pub each_grow : (answers later : AnswerTypes) (more : KnowsMore answers later) (ks ks' : List TypeId) (g : IsLonger ks ks') → (c : Around) (es : Exps) (ws : List (Want TypeId)) → EachTyped world answers ks c es ws → EachTyped world later ks' c es ws
    each_grow answers later more ks ks' g c NoExp [] h = tt
    each_grow answers later more ks ks' g c NoExp (w ∷ ws) h = absurd h
    each_grow answers later more ks ks' g c (AnExp e es) [] h = absurd h
    each_grow answers later more ks ks' g c (AnExp e es) (w ∷ ws) h = (typed_grow answers later more ks ks' g c e w h.0, each_grow answers later more ks ks' g c es ws h.1)

    pub cases_grow : (answers later : AnswerTypes) (more : KnowsMore answers later) (ks ks' : List TypeId) (g : IsLonger ks ks') → (c : Around) (cases : Cases) (a w : Want TypeId) → CasesTyped world answers ks c cases a w → CasesTyped world later ks' c cases a w
    cases_grow answers later more ks ks' g c NoCase a w h = tt
    cases_grow answers later more ks ks' g c (ACase p e cases) a w h = (h.0, h.1, typed_grow answers later more ks ks' g (with_names h.0 c) e w h.2, cases_grow answers later more ks ks' g c cases a w h.3)

    pub functions_grow : (answers later : AnswerTypes) (more : KnowsMore answers later) (ks ks' : List TypeId) (g : IsLonger ks ks') → (c : Around) (fns : Functions) (ws : List (Want TypeId)) → FunctionsTyped world answers ks c fns ws → FunctionsTyped world later ks' c fns ws
    functions_grow answers later more ks ks' g c NoFunction [] h = tt
    functions_grow answers later more ks ks' g c NoFunction (w ∷ ws) h = absurd h
    functions_grow answers later more ks ks' g c (AFunction how n ps body fns) [] h = absurd h
    functions_grow answers later more ks ks' g c (AFunction how n ps body fns) (w ∷ ws) h = (
      λ i. let f = h.0 i in (f.0, f.1, f.2, f.3, f.4, typed_grow (still answers) (still later) (still_more answers later more) ks ks' g (in_body f.2 f.1 c) body (Of f.1) f.5),
      functions_grow answers later more ks ks' g c fns ws h.1,
    )

  pub store_grow : (answers later : AnswerTypes) (more : KnowsMore answers later) (ks ks' : List TypeId) (g : IsLonger ks ks') → (vs : List Value) (ts : List TypeId) → StoreTyped world answers ks vs ts → StoreTyped world later ks' vs ts
  store_grow answers later more ks ks' g [] [] h = tt
  store_grow answers later more ks ks' g [] (t ∷ ts) h = absurd h
  store_grow answers later more ks ks' g (v ∷ vs) [] h = absurd h
  store_grow answers later more ks ks' g (v ∷ vs) (t ∷ ts) h = (has_grow answers later more ks ks' g v (Of t) h.0, store_grow answers later more ks ks' g vs ts h.1)
