-- Each reduction weighs at least 1.
use Rattle.std.proofs.Common.{ℕ, zero, suc, ◌+◌, ◌≤◌, List, [], ◌∷◌, Bool, true, false, cond, Option, Some, None, arith}
use Rattle.mo_num.specs.declared.operator.Operator.{Operator}
use Rattle.mo_num.specs.declared.operator.Operator.TheVariants as operator
use Rattle.mo_types.specs.declared.datum.Datum.TheVariants as part
use Rattle.mo_types.specs.declared.node.Node.{Node}
use Rattle.mo_types.specs.declared.node.TypeId.{TypeId}
use Rattle.mo_values.specs.declared.operation.Operation.{Operation}
use Rattle.mo_values.specs.declared.operation.Operation.TheVariants as op
use Rattle.mo_values.specs.declared.operation.Scalar.{Scalar}
use Rattle.mo_values.specs.declared.operation.Scalar.TheVariants as scalar
use Rattle.mo_values.specs.Costs.{Cost, arithmetic_weight, scalar_weight, operation_cost, sizes}
use Rattle.mo_values.specs.Operations.{operate}
use Rattle.mo_values.specs.Shapes.{Bytes, Leaf, Present, Future, Shape}
use Rattle.mo_values.specs.Views as answer
use Rattle.mo_values.specs.Views.{Answer, Gives}
use Rattle.typed_tree.specs.declared.action.Action.{Action}
use Rattle.typed_tree.specs.declared.action.Action.TheVariants as action
use Rattle.typed_tree.specs.declared.action.Member.{Member}
use Rattle.typed_tree.specs.declared.action.Member.TheVariants as member
use Rattle.typed_tree.specs.Language.{Value, Exp, Exps, Cases, Functions, Made, Function, BuiltIn, NoValue, AValue, Val, Name, Do, If, Switch, Group, Frame, Label, While, Repeat, For, Try, Update, NoExp, AnExp, NoCase, ACase, NoFunction, AFunction}
use Rattle.typed_tree.specs.Opening.{Code, shape_of, shapes_list, value_of}
use Rattle.typed_tree.specs.Patterns.{Pat, matches, matches_all}
use Rattle.typed_tree.specs.Substitution.{Slots}
use Rattle.mo_meaning.specs.Acts.{Store, Request, Given, Gets, Fails, Act, Goes, Prints, Asks, Awaits, Leaves, Throws}
use Rattle.mo_meaning.specs.Acts as act
use Rattle.mo_meaning.specs.Actions as action_of
use Rattle.mo_meaning.specs.Calls.{are_as_many, entered, entering, call_function}
use Rattle.mo_meaning.specs.Cells.{cell_of, held, goes_to, written, written_in}
use Rattle.mo_meaning.specs.Jumps.{unwrapped, at_label, at_handler, at_frame}
use Rattle.mo_meaning.specs.Matching.{on_match, trying, first_case}
use Rattle.mo_meaning.specs.Members.{body_of, in_frame, call_member, next_char_at}
use Rattle.mo_meaning.specs.Places.{inside, value_or, values_or, all_values, value_list}
use Rattle.mo_meaning.specs.Reduce.{chosen, reduce, reduce_operand}

abbrev pub Paid : Act → Type 0
Paid (Goes cost store e) = 1 ≤ cost.weight
Paid (Prints cost text e) = 1 ≤ cost.weight
Paid (Throws cost error) = 1 ≤ cost.weight
Paid _ = Unit {0}

-- ---- the table

arithmetic_paid : (o : Operator) → 1 ≤ arithmetic_weight o
arithmetic_paid operator.Div = omega arith
arithmetic_paid operator.Rem = omega arith
arithmetic_paid operator.Pow = omega arith
arithmetic_paid o = omega arith

scalar_paid : (s : Scalar) (n : ℕ) → 1 ≤ scalar_weight s n
scalar_paid scalar.Text n = omega arith
scalar_paid scalar.Blob n = omega arith
scalar_paid s n = omega arith

operation_paid : (o : Operation) (vs : List (Shape Code)) (a : Answer Code) → 1 ≤ (operation_cost o vs a).weight
operation_paid (op.Arithmetic o k) vs a = arithmetic_paid o
operation_paid (op.Compare c s) vs a = scalar_paid s (sizes vs)
operation_paid (op.Same s) vs a = scalar_paid s (sizes vs)
operation_paid o vs a = omega arith

-- ---- what is around

inside_paid : (around : Exp → Exp) (a : Act) → Paid a → Paid (inside around a)
inside_paid around (Goes cost store e) h = h
inside_paid around (Prints cost text e) h = h
inside_paid around (Throws cost error) h = h
inside_paid around (Asks request) h = tt
inside_paid around (Awaits nodes call) h = tt
inside_paid around (Leaves labels v) h = tt
inside_paid around (act.Traps cost text) h = tt
inside_paid around act.Stuck h = tt

value_paid : (e : Exp) (on : Value → Act) (otherwise : Act) → ((v : Value) → Paid (on v)) → Paid otherwise → Paid (value_or e on otherwise)
value_paid (Val v) on otherwise p q = p v
value_paid e on otherwise p q = q

values_paid : (vs : Option (List Value)) (on : List Value → Act) (otherwise : Act) → ((vs : List Value) → Paid (on vs)) → Paid otherwise → Paid (values_or vs on otherwise)
values_paid None on otherwise p q = q
values_paid (Some vs) on otherwise p q = p vs

match_paid : (o : Option (List (Shape Code))) (on : Slots → Act) (otherwise : Act) → ((s : Slots) → Paid (on s)) → Paid otherwise → Paid (on_match o on otherwise)
match_paid None on otherwise p q = q
match_paid (Some vs) on otherwise p q = p _

module _ (store : Store) where
  -- ---- cells and functions

  goes_to_paid : (o : Option Value) → Paid (goes_to store o)
  goes_to_paid None = tt
  goes_to_paid (Some v) = omega arith

  written_paid : (at : Option ℕ) (v : Value) → Paid (written store at v)
  written_paid None v = tt
  written_paid (Some at) v = omega arith

  written_in_paid : (a : Answer Code) (v : Value) → Paid (written_in store a v)
  written_in_paid (Gives c) v = written_paid (cell_of (value_of c)) v
  written_in_paid (answer.Traps text) v = tt
  written_in_paid answer.Stuck v = tt

  entered_paid : (group : Functions) (weight nodes : ℕ) (body : Exp) (o : Option (List (Shape Code))) → 1 ≤ weight → Paid (entered store group weight nodes body o)
  entered_paid group weight nodes body None h = tt
  entered_paid group weight nodes body (Some vs) h = h

  by_count : (b : Bool) (a : Act) → Paid a → Paid (cond b a act.Stuck)
  by_count true a h = h
  by_count false a h = tt

  function_paid : (group fns : Functions) (n : ℕ) (vs : List Value) → Paid (call_function store group fns n vs)
  function_paid group NoFunction n vs = tt
  function_paid group (AFunction how nodes ps body fns) zero vs =
      by_count (are_as_many ps vs) _ (entered_paid group (entering nodes ps (shapes_list vs)) nodes body (matches_all ps (shapes_list vs)) (omega arith))
  function_paid group (AFunction how nodes ps body fns) (suc n) vs = function_paid group fns n vs

  framed_paid : (o : Option Exp) → Paid (in_frame store o)
  framed_paid None = tt
  framed_paid (Some body) = omega arith

  char_paid : (t place : Value) (bytes : Option Bytes) (i : Option ℕ) → Paid (next_char_at store t place bytes i)
  char_paid t place None i = tt
  char_paid t place (Some bytes) None = tt
  char_paid t place (Some bytes) (Some i) = omega arith

  member_paid : (m : Member) (holds vs : List Value) → Paid (call_member store m holds vs)
  member_paid member.NextChar (t ∷ place ∷ []) [] = char_paid t place _ _
  member_paid m holds vs = framed_paid (body_of m holds vs)

  call_paid : (f : Value) (vs : List Value) → Paid (action_of.call store f vs)
  call_paid (Function group which) vs = function_paid group group which vs
  call_paid (BuiltIn m holds) vs = member_paid m (value_list holds) vs
  call_paid (Made head inside) vs = tt

  -- ---- actions

  printed_paid : (v : Value) → Paid (action_of.printed store v)
  printed_paid (Made (Leaf (part.Text t)) NoValue) = omega arith
  printed_paid v = tt

  given_paid : (given : Option Given) (asks : Act) → Paid asks → Paid (action_of.given_or store given asks)
  given_paid None asks h = h
  given_paid (Some (Gets v)) asks h = omega arith
  given_paid (Some (Fails error)) asks h = omega arith

  sent_paid : (given : Option Given) (ps rs : List TypeId) (f : Value) (vs : List Value) → Paid (action_of.sent store given ps rs f vs)
  sent_paid given ps rs (Made (Leaf (part.Method p name)) NoValue) vs = given_paid given _ tt
  sent_paid given ps rs f vs = tt

  awaited_paid : (given : Option Given) (v : Value) → Paid (action_of.awaited store given v)
  awaited_paid given (Made (Future call) NoValue) = given_paid given _ tt
  awaited_paid given v = tt

  unwrapped_paid : (labels : ℕ) (v : Value) → Paid (unwrapped store labels v)
  unwrapped_paid labels (Made (Leaf part.Null) NoValue) = omega arith
  unwrapped_paid labels (Made Present (AValue v NoValue)) = omega arith
  unwrapped_paid labels v = tt

  answered_paid : (cost : Cost) (a : Answer Code) → 1 ≤ cost.weight → Paid (action_of.answered store cost a)
  answered_paid cost (Gives v) h = h
  answered_paid cost (answer.Traps text) h = tt
  answered_paid cost answer.Stuck h = tt

  module _ (head : TypeId → Node TypeId) (given : Option Given) where
    act_paid : (a : Action) (vs : List Value) → Paid (action_of.act head given store a vs)
    act_paid (action.Operate o) vs = answered_paid _ (operate head o (shapes_list vs)) (operation_paid o (shapes_list vs) (operate head o (shapes_list vs)))
    act_paid (action.BuiltIn m) vs = omega arith
    act_paid action.New (v ∷ []) = omega arith
    act_paid action.Read (c ∷ []) = goes_to_paid (held store (cell_of c))
    act_paid action.Write (c ∷ v ∷ []) = written_paid (cell_of c) v
    act_paid action.WriteElement (a ∷ i ∷ v ∷ []) = written_in_paid (operate head op.Element (shape_of a ∷ shape_of i ∷ [])) v
    act_paid action.Print (v ∷ []) = printed_paid v
    act_paid action.Throw (v ∷ []) = omega arith
    act_paid action.Call (f ∷ vs) = call_paid f vs
    act_paid (action.Send ps rs) (f ∷ vs) = sent_paid given ps rs f vs
    act_paid action.Await (v ∷ []) = awaited_paid given v
    act_paid (action.Break labels) (v ∷ []) = tt
    act_paid (action.Unwrap labels) (v ∷ []) = unwrapped_paid labels v
    act_paid a vs = tt

  -- ---- constructs

  chosen_paid : (v : Value) (a b : Exp) → Paid (chosen store v a b)
  chosen_paid (Made (Leaf (part.Flag true)) NoValue) a b = omega arith
  chosen_paid (Made (Leaf (part.Flag false)) NoValue) a b = omega arith
  chosen_paid v a b = tt

  case_paid : (weight : ℕ) (v : Value) (cases : Cases) → 1 ≤ weight → Paid (first_case store weight v cases)
  case_paid weight v NoCase h = tt
  case_paid weight v (ACase p e cases) h =
      match_paid (matches p (shape_of v)) _ _ (λ s. omega (arith, h)) (case_paid (weight + trying p v) v cases (omega (arith, h)))

  label_paid : (a : Act) → Paid a → Paid (at_label store a)
  label_paid (Leaves zero v) h = omega arith
  label_paid (Leaves (suc labels) v) h = omega arith
  label_paid (Throws cost error) h = h
  label_paid (Goes cost store e) h = h
  label_paid (Prints cost text e) h = h
  label_paid (Asks request) h = tt
  label_paid (Awaits nodes call) h = tt
  label_paid (act.Traps cost text) h = tt
  label_paid act.Stuck h = tt

  handler_paid : (p : Pat) (b : Exp) (a : Act) → Paid a → Paid (at_handler store p b a)
  handler_paid p b (Throws cost error) h = match_paid (matches p (shape_of error)) _ _ (λ s. omega (arith, h)) tt
  handler_paid p b (Leaves labels v) h = omega arith
  handler_paid p b (Goes cost store e) h = h
  handler_paid p b (Prints cost text e) h = h
  handler_paid p b (Asks request) h = tt
  handler_paid p b (Awaits nodes call) h = tt
  handler_paid p b (act.Traps cost text) h = tt
  handler_paid p b act.Stuck h = tt

  frame_paid : (n : ℕ) (a : Act) → Paid a → Paid (at_frame store n a)
  frame_paid n (Leaves zero v) h = omega arith
  frame_paid n (Leaves (suc labels) v) h = tt
  frame_paid n (Awaits nodes call) h = tt
  frame_paid n (Goes cost store e) h = h
  frame_paid n (Prints cost text e) h = h
  frame_paid n (Throws cost error) h = h
  frame_paid n (Asks request) h = tt
  frame_paid n (act.Traps cost text) h = tt
  frame_paid n act.Stuck h = tt

  module _ (head : TypeId → Node TypeId) (given : Option Given) where
    mutual
      pub reduce_paid : (e : Exp) → Paid (reduce head given store e)
      reduce_paid (Val v) = tt
      reduce_paid (Name x) = tt
      reduce_paid (Do a es) = values_paid (all_values es) (action_of.act head given store a) _ (λ vs. act_paid head given a vs) (operand_paid (Do a) es)
      reduce_paid (If c a b) = value_paid c _ _ (λ v. chosen_paid v a b) (inside_paid _ (reduce head given store c) (reduce_paid c))
      reduce_paid (Switch e cases) = value_paid e _ _ (λ v. case_paid 1 v cases (omega arith)) (inside_paid _ (reduce head given store e) (reduce_paid e))
      reduce_paid (Group fns b) = omega arith
      reduce_paid (Frame n e) = value_paid e _ _ (λ v. omega arith) (frame_paid n (reduce head given store e) (reduce_paid e))
      reduce_paid (Label e) = value_paid e _ _ (λ v. omega arith) (label_paid (reduce head given store e) (reduce_paid e))
      reduce_paid (While c b) = omega arith
      reduce_paid (Repeat b c) = omega arith
      reduce_paid (For p e b) = value_paid e _ _ (λ v. omega arith) (inside_paid _ (reduce head given store e) (reduce_paid e))
      reduce_paid (Try e p b) = value_paid e _ _ (λ v. omega arith) (handler_paid p b (reduce head given store e) (reduce_paid e))
      reduce_paid (Update o e f) = value_paid e _ _ (λ v. omega arith) (inside_paid _ (reduce head given store e) (reduce_paid e))

      operand_paid : (around : Exps → Exp) (es : Exps) → Paid (reduce_operand head given store around es)
      operand_paid around NoExp = tt
      operand_paid around (AnExp e es) =
          value_paid e _ _ (λ v. operand_paid (λ rest. around (AnExp (Val v) rest)) es) (inside_paid _ (reduce head given store e) (reduce_paid e))
