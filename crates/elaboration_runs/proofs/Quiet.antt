-- Only a call of another actor asks, and only an await waits.
use Rattle.std.proofs.Common.{ℕ, zero, suc, ◌+◌, Bool, true, false, List, [], ◌∷◌, Option, Some, None}
use Rattle.std.specs.Prelude.{cond}
use Rattle.mo_types.specs.declared.datum.Datum.TheVariants as part
use Rattle.mo_types.specs.declared.node.Node.{Node}
use Rattle.mo_types.specs.declared.node.TypeId.{TypeId}
use Rattle.mo_values.specs.declared.operation.Operation.TheVariants as op
use Rattle.mo_values.specs.Costs.{Cost, operation_cost}
use Rattle.mo_values.specs.Operations.{operate}
use Rattle.mo_values.specs.Shapes.{Leaf, Present, Shape}
use Rattle.mo_values.specs.Views.{Answer, Gives, text_of}
use Rattle.mo_values.specs.Views as view
use Rattle.typed_tree.specs.declared.action.Action.{Action}
use Rattle.typed_tree.specs.declared.action.Action.TheVariants as action
use Rattle.typed_tree.specs.declared.action.Member.{Member}
use Rattle.typed_tree.specs.declared.action.Member.TheVariants as member
use Rattle.typed_tree.specs.Language as source
use Rattle.typed_tree.specs.Language.{Exp, Functions, Cases, NoCase, ACase, NoFunction, AFunction}
use Rattle.typed_tree.specs.Patterns.{matches, matches_all}
use Rattle.mo_machine.specs.Values.{Value, Made, Closure, BuiltIn, NoValue, AValue, Code, shape_of, shapes_list, listed}
use Rattle.mo_machine.specs.Acts.{Store, Act, Goes, Prints, Asks, Awaits, Leaves, Throws, Traps, Stuck}
use Rattle.mo_machine.specs.Actions.{act, call, printed, answered}
use Rattle.mo_machine.specs.Calls.{are_as_many, entered, entering, call_function}
use Rattle.mo_machine.specs.Cells.{cell_of, held, goes_to, written, written_in}
use Rattle.mo_machine.specs.Environments.{Environment}
use Rattle.mo_machine.specs.Frames as machine
use Rattle.mo_machine.specs.Frames.{Frame, Operands, Choosing, Switching, Returning, Labelled, Testing, Turning, Repeating, Retesting, Going, Stepping, Trying, Updating, Joining, Stack, Ready}
use Rattle.mo_machine.specs.Jumps.{leave, throw, on_stack, unwrapped}
use Rattle.mo_machine.specs.Matching.{on_match, first_case, trying}
use Rattle.mo_machine.specs.Members.{body_of, in_frame, call_member, next_char_at, number_in}
use Rattle.mo_machine.specs.Reductions.{chosen, takes, reduces}

abbrev pub Quiet : Act → Type 0
Quiet (Asks request) = ⊥
Quiet (Awaits n call) = ⊥
Quiet _ = Unit {0}

quiet_match : (o : Option (List (Shape Code))) (f : List Value → Act) (otherwise : Act) → ((vs : List Value) → Quiet (f vs)) → Quiet otherwise → Quiet (on_match o f otherwise)
quiet_match None f otherwise h other = other
quiet_match (Some vs) f otherwise h other = h _

-- ---- jumps

quiet_leave : (store : Store) (n : ℕ) (v : Value) (k : Stack) → Quiet (leave store n v k)
quiet_leave store zero v [] = tt
quiet_leave store (suc n) v [] = tt
quiet_leave store zero v (Labelled ∷ k) = tt
quiet_leave store (suc n) v (Labelled ∷ k) = tt
quiet_leave store zero v (Trying p b env ∷ k) = tt
quiet_leave store (suc n) v (Trying p b env ∷ k) = tt
quiet_leave store zero v (Returning m ∷ k) = tt
quiet_leave store (suc n) v (Returning m ∷ k) = tt
quiet_leave store zero v (_ ∷ k) = quiet_leave store zero v k
quiet_leave store (suc n) v (_ ∷ k) = quiet_leave store (suc n) v k

quiet_throw : (store : Store) (cost : Cost) (error : Value) (k : Stack) → Quiet (throw store cost error k)
quiet_throw store cost error [] = tt
quiet_throw store cost error (Labelled ∷ k) = tt
quiet_throw store cost error (Trying p b env ∷ k) = quiet_match (matches p (shape_of error)) _ _ (λ vs. tt) tt
quiet_throw store cost error (_ ∷ k) = quiet_throw store cost error k

quiet_on_stack : (store : Store) (a : Act) (k : Stack) → Quiet a → Quiet (on_stack store a k)
quiet_on_stack store (Goes cost later f l) k h = tt
quiet_on_stack store (Prints cost text f l) k h = tt
quiet_on_stack store (Asks request) k h = h
quiet_on_stack store (Awaits n call) k h = h
quiet_on_stack store (Leaves n v) k h = quiet_leave store n v k
quiet_on_stack store (Throws cost error) k h = quiet_throw store cost error k
quiet_on_stack store (Traps cost text) k h = tt
quiet_on_stack store Stuck k h = tt

-- ---- what frames do

quiet_chosen : (v : Value) (a b : Act) → Quiet a → Quiet b → Quiet (chosen v a b)
quiet_chosen (Made (Leaf (part.Flag true)) NoValue) a b h i = h
quiet_chosen (Made (Leaf (part.Flag false)) NoValue) a b h i = i
quiet_chosen _ a b h i = tt

quiet_case : (store : Store) (weight : ℕ) (v : Value) (cases : Cases) (env : Environment) → Quiet (first_case store weight v cases env)
quiet_case store weight v NoCase env = tt
quiet_case store weight v (ACase p e cases) env = quiet_match (matches p (shape_of v)) _ _ (λ vs. tt) (quiet_case store (weight + trying p v) v cases env)

quiet_takes : (store : Store) (v : Value) (frame : Frame) → Quiet (takes store v frame)
quiet_takes store v (Choosing a b env) = quiet_chosen v _ _ tt tt
quiet_takes store v (Switching cases env) = quiet_case store 1 v cases env
quiet_takes store v (Returning n) = tt
quiet_takes store v Labelled = tt
quiet_takes store v (Testing c b env) = quiet_chosen v _ _ tt tt
quiet_takes store v (Turning c b env) = tt
quiet_takes store v (Repeating b c env) = tt
quiet_takes store v (Retesting b c env) = quiet_chosen v _ _ tt tt
quiet_takes store v (Going p b env) = tt
quiet_takes store v (Stepping p w b env) = quiet_chosen v _ _ tt tt
quiet_takes store v (Trying p b env) = tt
quiet_takes store v (Updating o f env) = tt
quiet_takes store v (Operands a done rest env) = tt
quiet_takes store v Joining = tt

-- ---- actions

quiet_answered : (store : Store) (cost : Cost) (a : Answer Code) → Quiet (answered store cost a)
quiet_answered store cost (Gives v) = tt
quiet_answered store cost (view.Traps text) = tt
quiet_answered store cost view.Stuck = tt

quiet_held : (store : Store) (o : Option Value) → Quiet (goes_to store o)
quiet_held store None = tt
quiet_held store (Some v) = tt

quiet_written : (store : Store) (o : Option ℕ) (v : Value) → Quiet (written store o v)
quiet_written store None v = tt
quiet_written store (Some i) v = tt

quiet_element : (store : Store) (a : Answer Code) (v : Value) → Quiet (written_in store a v)
quiet_element store (Gives c) v = quiet_written store _ v
quiet_element store (view.Traps text) v = tt
quiet_element store view.Stuck v = tt

quiet_printed : (store : Store) (v : Value) → Quiet (printed store v)
quiet_printed store (Made (Leaf (part.Text t)) NoValue) = tt
quiet_printed store _ = tt

quiet_unwrapped : (store : Store) (n : ℕ) (v : Value) → Quiet (unwrapped store n v)
quiet_unwrapped store n (Made (Leaf part.Null) NoValue) = tt
quiet_unwrapped store n (Made Present (AValue v NoValue)) = tt
quiet_unwrapped store n _ = tt

quiet_frame : (store : Store) (o : Option machine.Focus) → Quiet (in_frame store o)
quiet_frame store None = tt
quiet_frame store (Some f) = tt

quiet_character : (store : Store) (t place : Value) (o : Option (List ℕ)) (p : Option ℕ) → Quiet (next_char_at store t place o p)
quiet_character store t place None p = tt
quiet_character store t place (Some bytes) None = tt
quiet_character store t place (Some bytes) (Some i) = tt

quiet_member : (store : Store) (m : Member) (holds vs : List Value) → Quiet (call_member store m holds vs)
quiet_member store member.NextChar [] vs = tt
quiet_member store member.NextChar (t ∷ []) vs = tt
quiet_member store member.NextChar (t ∷ place ∷ []) [] = quiet_character store t place (text_of (shape_of t)) (number_in (held store (cell_of place)))
quiet_member store member.NextChar (t ∷ place ∷ []) (v ∷ vs) = tt
quiet_member store member.NextChar (t ∷ place ∷ u ∷ holds) vs = tt
quiet_member store m holds vs = quiet_frame store (body_of m holds vs)

quiet_entered : (store : Store) (group : Functions) (env : Environment) (weight nodes : ℕ) (body : Exp) (o : Option (List (Shape Code))) → Quiet (entered store group env weight nodes body o)
quiet_entered store group env weight nodes body None = tt
quiet_entered store group env weight nodes body (Some vs) = tt

quiet_if : (b : Bool) (a : Act) → Quiet a → Quiet (cond b a Stuck)
quiet_if true a h = h
quiet_if false a h = tt

quiet_function : (store : Store) (group : Functions) (env : Environment) (fns : Functions) (n : ℕ) (vs : List Value) → Quiet (call_function store group env fns n vs)
quiet_function store group env NoFunction n vs = tt
quiet_function store group env (AFunction how nodes ps body fns) zero vs =
    quiet_if (are_as_many ps vs) _ (quiet_entered store group env (entering nodes ps (shapes_list vs)) nodes body (matches_all ps (shapes_list vs)))
quiet_function store group env (AFunction how nodes ps body fns) (suc n) vs = quiet_function store group env fns n vs

quiet_call : (store : Store) (f : Value) (vs : List Value) → Quiet (call store f vs)
quiet_call store (Closure group which env) vs = quiet_function store group env group which vs
quiet_call store (BuiltIn m holds) vs = quiet_member store m (listed holds) vs
quiet_call store (Made head inside) vs = tt

-- an action that neither calls another actor nor waits
abbrev pub IsInner : Action → Type 0
IsInner (action.Send ps rs) = ⊥
IsInner action.Await = ⊥
IsInner _ = Unit {0}

module _ (head : TypeId → Node TypeId) (store : Store) where
  quiet_act : (a : Action) (vs : List Value) → IsInner a → Quiet (act head None store a vs)
  quiet_act (action.Operate o) vs h = quiet_answered store (operation_cost o (shapes_list vs) (operate head o (shapes_list vs))) (operate head o (shapes_list vs))
  quiet_act (action.BuiltIn m) vs h = tt
  quiet_act action.New [] h = tt
  quiet_act action.New (v ∷ []) h = tt
  quiet_act action.New (v ∷ u ∷ vs) h = tt
  quiet_act action.Read [] h = tt
  quiet_act action.Read (c ∷ []) h = quiet_held store (held store (cell_of c))
  quiet_act action.Read (c ∷ u ∷ vs) h = tt
  quiet_act action.Write [] h = tt
  quiet_act action.Write (c ∷ []) h = tt
  quiet_act action.Write (c ∷ v ∷ []) h = quiet_written store (cell_of c) v
  quiet_act action.Write (c ∷ v ∷ u ∷ vs) h = tt
  quiet_act action.WriteElement [] h = tt
  quiet_act action.WriteElement (a ∷ []) h = tt
  quiet_act action.WriteElement (a ∷ i ∷ []) h = tt
  quiet_act action.WriteElement (a ∷ i ∷ v ∷ []) h = quiet_element store (operate head op.Element (shape_of a ∷ shape_of i ∷ [])) v
  quiet_act action.WriteElement (a ∷ i ∷ v ∷ u ∷ vs) h = tt
  quiet_act action.Print [] h = tt
  quiet_act action.Print (v ∷ []) h = quiet_printed store v
  quiet_act action.Print (v ∷ u ∷ vs) h = tt
  quiet_act action.Throw [] h = tt
  quiet_act action.Throw (v ∷ []) h = tt
  quiet_act action.Throw (v ∷ u ∷ vs) h = tt
  quiet_act action.Call [] h = tt
  quiet_act action.Call (f ∷ vs) h = quiet_call store f vs
  quiet_act (action.Send ps rs) vs h = absurd h
  quiet_act action.Await vs h = absurd h
  quiet_act (action.Break n) [] h = tt
  quiet_act (action.Break n) (v ∷ []) h = tt
  quiet_act (action.Break n) (v ∷ u ∷ vs) h = tt
  quiet_act (action.Unwrap n) [] h = tt
  quiet_act (action.Unwrap n) (v ∷ []) h = quiet_unwrapped store n v
  quiet_act (action.Unwrap n) (v ∷ u ∷ vs) h = tt

  -- a call of another actor or an await does not stand there
  abbrev pub StandsInside : machine.Focus → Type 0
  StandsInside (Ready a vs) = IsInner a
  StandsInside _ = Unit {0}

  pub quiet_inside : (f : machine.Focus) (k : Stack) → StandsInside f → Quiet (reduces head None store f k)
  quiet_inside (Ready a vs) k h = quiet_on_stack store (act head None store a vs) k (quiet_act a vs h)
  quiet_inside (machine.Give v) [] h = tt
  quiet_inside (machine.Give v) (frame ∷ k) h = quiet_on_stack store (takes store v frame) k (quiet_takes store v frame)
  quiet_inside (machine.Eval (source.Group fns b) env) k h = tt
  quiet_inside (machine.Eval (source.While c b) env) k h = tt
  quiet_inside (machine.Eval (source.Repeat b c) env) k h = tt
  quiet_inside (machine.Eval _ env) k h = tt
