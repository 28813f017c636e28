-- What is done where all operands have their values.
use Rattle.std.proofs.Common.{◌≤◌, ℕ, zero, suc, List, [], ◌∷◌, Bool, true, false, Option, Some, None, arith}
use Rattle.std.specs.Prelude.{cond}
use Rattle.mo_types.specs.declared.datum.Datum.TheVariants as part
use Rattle.mo_types.specs.declared.node.Node.{Node}
use Rattle.mo_types.specs.declared.node.TypeId.{TypeId}
use Rattle.mo_values.specs.Costs.{Cost}
use Rattle.mo_values.specs.declared.operation.Operation.TheVariants as op
use Rattle.mo_values.specs.Operations.{operate}
use Rattle.mo_values.specs.Shapes.{Leaf, Present, Future, Shape}
use Rattle.mo_values.specs.Views as answer
use Rattle.mo_values.specs.Views.{Answer, Gives}
use Rattle.typed_tree.specs.declared.action.Action.{Action}
use Rattle.typed_tree.specs.declared.action.Action.TheVariants as action
use Rattle.typed_tree.specs.Language.{Exp, Functions, NoFunction, AFunction}
use Rattle.typed_tree.specs.Patterns.{matches_all}
use Rattle.nesting.specs.Shapes.{pile}
use Rattle.nesting.proofs.Piles.{parts_pile_less}
use Rattle.mo_meaning.specs.Acts.{Given, Gets, Fails}
use Rattle.mo_machine.specs.Actions.{call, printed, given_or, sent, awaited, answered, act}
use Rattle.mo_machine.specs.Acts.{Store, Act, Asks, Awaits, Stuck}
use Rattle.mo_machine.specs.Calls.{are_as_many, entered, entering, call_function}
use Rattle.mo_machine.specs.Cells.{goes_to, cell_of, held, written, written_in}
use Rattle.mo_machine.specs.Environments.{Environment, with_group}
use Rattle.mo_machine.specs.Frames.{Returning, Stack, Give}
use Rattle.mo_machine.specs.Jumps.{unwrapped}
use Rattle.mo_machine.specs.Values.{Value, Made, Closure, BuiltIn, NoValue, AValue, Code, shape_of, shapes_list, value_of, values_list, listed, unit, null, load}
use Rattle.machine_nesting.specs.Actors.{GoodGiven}
use Rattle.machine_nesting.specs.Sizes.{Sized, SizedFunctions, Good, GoodAll, GoodEach}
use Rattle.machine_nesting.specs.Stacks.{IsQuiet, open_on, limit_on, Piled, Standing}
use Rattle.machine_nesting.proofs.Counting.{room}
use Rattle.machine_nesting.proofs.Members.{member_good}
use Rattle.machine_nesting.proofs.Shapes.{GoodAnswer, operation_good, GoodFound, match_all_good}
use Rattle.machine_nesting.proofs.Sizes.{load_good, each_append, listed_good, gathered_good, MaybeGood, get_good, set_good, extended_good, group_good}
use Rattle.machine_nesting.proofs.Standing.{busy_value, busy_ready, busy_code, Acts}

-- ---- what gives a value, wherever that may be given

module _ (ending : ℕ) (Waiting : Type 0) (Jumps : Value → Type 0) (k : Stack) (stands : (v : Value) → Good v → Standing ending (Give v) k) (store : Store) (s : GoodEach store) where
  abbrev Does : Act → Type 0
  Does m = Acts ending Waiting Jumps k m

  answered_good : (cost : Cost) (a : Answer Code) → GoodAnswer a → Does (answered store cost a)
  answered_good cost (Gives u) h = (s, stands (value_of u) h, omega arith)
  answered_good cost (answer.Traps text) h = tt
  answered_good cost answer.Stuck h = tt

  held_good : (o : Option ℕ) → MaybeGood (held store o)
  held_good None = tt
  held_good (Some n) = get_good store n s

  goes_to_good : (o : Option Value) → MaybeGood o → Does (goes_to store o)
  goes_to_good None h = tt
  goes_to_good (Some v) h = (s, stands v h, omega arith)

  written_good : (o : Option ℕ) (v : Value) → Good v → Does (written store o v)
  written_good None v h = tt
  written_good (Some n) v h = (set_good store n v s h, stands unit tt, omega arith)

  element_good : (a : Answer Code) (v : Value) → Good v → Does (written_in store a v)
  element_good (Gives c) v h = written_good (cell_of (value_of c)) v h
  element_good (answer.Traps text) v h = tt
  element_good answer.Stuck v h = tt

  module _ (head : TypeId → Node TypeId) (given : Option Given) where
    -- the actions of built-in functions' own code
    pub quiet_acts : (a : Action) (vs : List Value) → IsQuiet a → GoodEach vs → Does (act head given store a vs)
    quiet_acts (action.Operate o) vs q h = answered_good _ (operate head o (shapes_list vs)) (operation_good head o vs h)
    quiet_acts (action.BuiltIn m) vs q h = (s, stands (BuiltIn m _) (gathered_good vs h), omega arith)
    quiet_acts action.New (v ∷ []) q h = (each_append store (v ∷ []) s (h.0, tt), stands _ tt, omega arith)
    quiet_acts action.Read (c ∷ []) q h = goes_to_good (held store (cell_of c)) (held_good (cell_of c))
    quiet_acts action.Write (c ∷ v ∷ []) q h = written_good (cell_of c) v h.1.0
    quiet_acts action.WriteElement vs q h = absurd q
    quiet_acts action.Print vs q h = absurd q
    quiet_acts action.Throw vs q h = absurd q
    quiet_acts action.Call vs q h = absurd q
    quiet_acts (action.Send ps rs) vs q h = absurd q
    quiet_acts action.Await vs q h = absurd q
    quiet_acts (action.Break labels) vs q h = absurd q
    quiet_acts (action.Unwrap labels) vs q h = absurd q
    quiet_acts _ _ q h = tt

-- ---- the others

abbrev pub MaybeGiven : Option Given → Type 0
MaybeGiven None = Unit {0}
MaybeGiven (Some g) = GoodGiven g

module _ (ending : ℕ) (small : ending ≤ 1) (k : Stack) (p : Piled ending k) (store : Store) (s : GoodEach store) where
  abbrev Makes : Act → Type 0
  Makes m = Acts ending (Unit {0}) Good k m

  gives : (v : Value) → Good v → Standing ending (Give v) k
  gives v g = busy_value ending k p v g

  printed_good : (v : Value) → Makes (printed store v)
  printed_good (Made (Leaf (part.Text t)) NoValue) = (gives unit tt, omega arith)
  printed_good _ = tt

  entered_good : (group : Functions) (env : Environment) (weight nodes : ℕ) (body : Exp) (o : Option (List (Shape Code))) → SizedFunctions group → GoodAll env → Sized body → pile 1 1 body ≤ nodes → nodes ≤ weight → GoodFound o
      → Makes (entered store group env weight nodes body o)
  entered_good group env weight nodes body None g e b l w h = tt
  entered_good group env weight nodes body (Some vs) g e b l w h =
      let m : pile ending 1 body ≤ pile 1 1 body = parts_pile_less ending 1 small (omega arith) body in
      let r : open_on ending k ≤ limit_on ending k = room ending k p in (
        s,
        busy_code ending (Returning nodes ∷ k) (tt, omega (arith, r), p) body _ b (extended_good (values_list vs) (with_group group env) h (group_good env group group 0 env g e e)) (omega (arith, m, l)),
        omega (arith, w),
      )

  function_good : (group : Functions) (env : Environment) (fns : Functions) (n : ℕ) (vs : List Value) → SizedFunctions group → GoodAll env → SizedFunctions fns → GoodEach vs → Makes (call_function store group env fns n vs)
  function_good group env NoFunction n vs g e f h = tt
  function_good group env (AFunction how nodes ps body fns) (suc n) vs g e f h = function_good group env fns n vs g e f.2 h
  function_good group env (AFunction how nodes ps body fns) zero vs g e f h = by (are_as_many ps vs)
    where
      by : (b : Bool) → Makes (cond b (entered store group env (entering nodes ps (shapes_list vs)) nodes body (matches_all ps (shapes_list vs))) Stuck)
      by true = entered_good group env (entering nodes ps (shapes_list vs)) nodes body (matches_all ps (shapes_list vs)) g e f.1 f.0 (omega arith) (match_all_good ps vs h)
      by false = tt

  call_good : (f : Value) (vs : List Value) → Good f → GoodEach vs → Makes (call store f vs)
  call_good (Closure group which env) vs g h = function_good group env group which vs g.0 g.1 g.0 h
  call_good (BuiltIn m holds) vs g h = member_good ending k p (Unit {0}) Good store s m (listed holds) vs (listed_good holds g) h
  call_good (Made head inside) vs g h = tt

  given_good : (given : Option Given) → MaybeGiven given → (asks : Act) → Makes asks → Makes (given_or store given asks)
  given_good None g asks h = h
  given_good (Some (Gets v)) g asks h = (s, gives (load v) (load_good v g), omega arith)
  given_good (Some (Fails error)) g asks h = load_good error g

  sent_good : (given : Option Given) → MaybeGiven given → (ps rs : List TypeId) (f : Value) (vs : List Value) → Makes (sent store given ps rs f vs)
  sent_good given g ps rs (Made (Leaf (part.Method q name)) NoValue) vs = given_good given g (Asks _) tt
  sent_good given g ps rs _ vs = tt

  awaited_good : (given : Option Given) → MaybeGiven given → (v : Value) → Makes (awaited store given v)
  awaited_good given g (Made (Future call) NoValue) = given_good given g (Awaits 0 call) tt
  awaited_good given g _ = tt

  unwrapped_good : (labels : ℕ) (v : Value) → Good v → Makes (unwrapped store labels v)
  unwrapped_good labels (Made (Leaf part.Null) NoValue) h = (s, busy_ready ending k p (action.Break labels) (null ∷ []) (tt, tt), omega arith)
  unwrapped_good labels (Made Present (AValue v NoValue)) h = (s, gives v h.0, omega arith)
  unwrapped_good labels _ h = tt

  module _ (head : TypeId → Node TypeId) (given : Option Given) (g : MaybeGiven given) where
    quietly : (a : Action) (vs : List Value) → IsQuiet a → GoodEach vs → Makes (act head given store a vs)
    quietly a vs q h = quiet_acts ending (Unit {0}) Good k gives store s head given a vs q h

    pub acts : (a : Action) (vs : List Value) → GoodEach vs → Makes (act head given store a vs)
    acts (action.Operate o) vs h = quietly (action.Operate o) vs tt h
    acts (action.BuiltIn m) vs h = quietly (action.BuiltIn m) vs tt h
    acts action.New vs h = quietly action.New vs tt h
    acts action.Read vs h = quietly action.Read vs tt h
    acts action.Write vs h = quietly action.Write vs tt h
    acts action.WriteElement (a ∷ i ∷ v ∷ []) h = element_good ending (Unit {0}) Good k gives store s (operate head op.Element (shape_of a ∷ shape_of i ∷ [])) v h.1.1.0
    acts action.Print (v ∷ []) h = printed_good v
    acts action.Throw (v ∷ []) h = h.0
    acts action.Call (f ∷ vs) h = call_good f vs h.0 h.1
    acts (action.Send ps rs) (f ∷ vs) h = sent_good given g ps rs f vs
    acts action.Await (v ∷ []) h = awaited_good given g v
    acts (action.Break labels) (v ∷ []) h = h.0
    acts (action.Unwrap labels) (v ∷ []) h = unwrapped_good labels v h.0
    acts _ _ h = tt
