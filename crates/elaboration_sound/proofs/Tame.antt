-- What goes on, prints, traps or is stuck, whatever it is evaluated in.
use Rattle.std.proofs.Common.{ℕ, zero, suc, Bool, true, false, List, [], ◌∷◌, Option, Some, None}
use Rattle.std.specs.Prelude.{cond}
use Rattle.mo_types.specs.declared.datum.Datum.TheVariants as part
use Rattle.mo_types.specs.declared.node.Node.{Node}
use Rattle.mo_types.specs.declared.node.TypeId.{TypeId}
use Rattle.mo_values.specs.declared.operation.Operation.TheVariants as op
use Rattle.mo_values.specs.Costs.{Cost, operation_cost}
use Rattle.mo_values.specs.Operations.{operate}
use Rattle.mo_values.specs.Shapes.{Leaf, Present, Shape}
use Rattle.mo_values.specs.Views.{Answer, Gives, text_of}
use Rattle.mo_values.specs.Views as view
use Rattle.typed_tree.specs.declared.action.Action.{Action}
use Rattle.typed_tree.specs.declared.action.Action.TheVariants as action
use Rattle.typed_tree.specs.declared.action.Member.{Member}
use Rattle.typed_tree.specs.declared.action.Member.TheVariants as member
use Rattle.typed_tree.specs.Language.{Exp, Functions, NoFunction, AFunction}
use Rattle.typed_tree.specs.Patterns.{matches_all}
use Rattle.mo_machine.specs.Values.{Value, Made, Closure, BuiltIn, NoValue, AValue, Code, shape_of, shapes_list, listed}
use Rattle.mo_machine.specs.Acts.{Store, Act, Goes, Prints, Traps, Stuck}
use Rattle.mo_machine.specs.Actions.{act, call, printed, answered}
use Rattle.mo_machine.specs.Calls.{are_as_many, entered, entering, call_function}
use Rattle.mo_machine.specs.Cells.{cell_of, held, goes_to, written, written_in}
use Rattle.mo_machine.specs.Environments.{Environment}
use Rattle.mo_machine.specs.Frames as machine
use Rattle.mo_machine.specs.Jumps.{unwrapped}
use Rattle.mo_machine.specs.Members.{body_of, in_frame, call_member, next_char_at, number_in}

abbrev pub Tame : Act → Type 0
Tame (Goes cost store f k) = Unit {0}
Tame (Prints cost text f k) = Unit {0}
Tame (Traps cost text) = Unit {0}
Tame Stuck = Unit {0}
Tame _ = ⊥

-- ---- actions

tame_answered : (store : Store) (cost : Cost) (a : Answer Code) → Tame (answered store cost a)
tame_answered store cost (Gives v) = tt
tame_answered store cost (view.Traps text) = tt
tame_answered store cost view.Stuck = tt

tame_held : (store : Store) (o : Option Value) → Tame (goes_to store o)
tame_held store None = tt
tame_held store (Some v) = tt

tame_written : (store : Store) (o : Option ℕ) (v : Value) → Tame (written store o v)
tame_written store None v = tt
tame_written store (Some i) v = tt

tame_element : (store : Store) (a : Answer Code) (v : Value) → Tame (written_in store a v)
tame_element store (Gives c) v = tame_written store _ v
tame_element store (view.Traps text) v = tt
tame_element store view.Stuck v = tt

tame_printed : (store : Store) (v : Value) → Tame (printed store v)
tame_printed store (Made (Leaf (part.Text t)) NoValue) = tt
tame_printed store _ = tt

tame_unwrapped : (store : Store) (n : ℕ) (v : Value) → Tame (unwrapped store n v)
tame_unwrapped store n (Made (Leaf part.Null) NoValue) = tt
tame_unwrapped store n (Made Present (AValue v NoValue)) = tt
tame_unwrapped store n _ = tt

tame_frame : (store : Store) (o : Option machine.Focus) → Tame (in_frame store o)
tame_frame store None = tt
tame_frame store (Some f) = tt

tame_character : (store : Store) (t place : Value) (o : Option (List ℕ)) (p : Option ℕ) → Tame (next_char_at store t place o p)
tame_character store t place None p = tt
tame_character store t place (Some bytes) None = tt
tame_character store t place (Some bytes) (Some i) = tt

tame_member : (store : Store) (m : Member) (holds vs : List Value) → Tame (call_member store m holds vs)
tame_member store member.NextChar [] vs = tt
tame_member store member.NextChar (t ∷ []) vs = tt
tame_member store member.NextChar (t ∷ place ∷ []) [] = tame_character store t place (text_of (shape_of t)) (number_in (held store (cell_of place)))
tame_member store member.NextChar (t ∷ place ∷ []) (v ∷ vs) = tt
tame_member store member.NextChar (t ∷ place ∷ u ∷ holds) vs = tt
tame_member store m holds vs = tame_frame store (body_of m holds vs)

tame_entered : (store : Store) (group : Functions) (env : Environment) (weight nodes : ℕ) (body : Exp) (o : Option (List (Shape Code))) → Tame (entered store group env weight nodes body o)
tame_entered store group env weight nodes body None = tt
tame_entered store group env weight nodes body (Some vs) = tt

tame_if : (b : Bool) (a : Act) → Tame a → Tame (cond b a Stuck)
tame_if true a h = h
tame_if false a h = tt

tame_function : (store : Store) (group : Functions) (env : Environment) (fns : Functions) (n : ℕ) (vs : List Value) → Tame (call_function store group env fns n vs)
tame_function store group env NoFunction n vs = tt
tame_function store group env (AFunction how nodes ps body fns) zero vs =
    tame_if (are_as_many ps vs) _ (tame_entered store group env (entering nodes ps (shapes_list vs)) nodes body (matches_all ps (shapes_list vs)))
tame_function store group env (AFunction how nodes ps body fns) (suc n) vs = tame_function store group env fns n vs

tame_call : (store : Store) (f : Value) (vs : List Value) → Tame (call store f vs)
tame_call store (Closure group which env) vs = tame_function store group env group which vs
tame_call store (BuiltIn m holds) vs = tame_member store m (listed holds) vs
tame_call store (Made head inside) vs = tt

-- an action that does not call another actor, wait, throw or jump
abbrev pub IsInner : Action → Type 0
IsInner (action.Send ps rs) = ⊥
IsInner action.Await = ⊥
IsInner action.Throw = ⊥
IsInner (action.Break n) = ⊥
IsInner _ = Unit {0}

module _ (head : TypeId → Node TypeId) (store : Store) where
  pub tame_act : (a : Action) (vs : List Value) → IsInner a → Tame (act head None store a vs)
  tame_act (action.Operate o) vs h = tame_answered store (operation_cost o (shapes_list vs) (operate head o (shapes_list vs))) (operate head o (shapes_list vs))
  tame_act (action.BuiltIn m) vs h = tt
  tame_act action.New [] h = tt
  tame_act action.New (v ∷ []) h = tt
  tame_act action.New (v ∷ u ∷ vs) h = tt
  tame_act action.Read [] h = tt
  tame_act action.Read (c ∷ []) h = tame_held store (held store (cell_of c))
  tame_act action.Read (c ∷ u ∷ vs) h = tt
  tame_act action.Write [] h = tt
  tame_act action.Write (c ∷ []) h = tt
  tame_act action.Write (c ∷ v ∷ []) h = tame_written store (cell_of c) v
  tame_act action.Write (c ∷ v ∷ u ∷ vs) h = tt
  tame_act action.WriteElement [] h = tt
  tame_act action.WriteElement (a ∷ []) h = tt
  tame_act action.WriteElement (a ∷ i ∷ []) h = tt
  tame_act action.WriteElement (a ∷ i ∷ v ∷ []) h = tame_element store (operate head op.Element (shape_of a ∷ shape_of i ∷ [])) v
  tame_act action.WriteElement (a ∷ i ∷ v ∷ u ∷ vs) h = tt
  tame_act action.Print [] h = tt
  tame_act action.Print (v ∷ []) h = tame_printed store v
  tame_act action.Print (v ∷ u ∷ vs) h = tt
  tame_act action.Throw vs h = absurd h
  tame_act action.Call [] h = tt
  tame_act action.Call (f ∷ vs) h = tame_call store f vs
  tame_act (action.Send ps rs) vs h = absurd h
  tame_act action.Await vs h = absurd h
  tame_act (action.Break n) vs h = absurd h
  tame_act (action.Unwrap n) [] h = tt
  tame_act (action.Unwrap n) (v ∷ []) h = tame_unwrapped store n v
  tame_act (action.Unwrap n) (v ∷ u ∷ vs) h = tt
