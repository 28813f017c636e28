-- Primitives have few operands for their weight: those that put values together count each of these, and all others have three at most.
use Rattle.std.proofs.Common.{ℕ, ◌+◌, ◌*◌, ◌≤◌, List, [], ◌∷◌, length, Bool, true, false, cond, Option, Some, None, arith}
use Rattle.mo_num.specs.declared.operator.Operator.{Operator}
use Rattle.mo_num.specs.declared.operator.Operator.TheVariants as operator
use Rattle.mo_types.specs.declared.datum.Datum.{Datum}
use Rattle.mo_types.specs.declared.datum.Datum.TheVariants as part
use Rattle.mo_types.specs.declared.node.Node.{Node}
use Rattle.mo_types.specs.declared.node.TypeId.{TypeId}
use Rattle.mo_values.specs.declared.operation.Operation.{Operation}
use Rattle.mo_values.specs.declared.operation.Operation.TheVariants as op
use Rattle.mo_values.specs.declared.operation.Scalar.{Scalar}
use Rattle.mo_values.specs.declared.operation.Scalar.TheVariants as scalar
use Rattle.mo_values.specs.Costs.{Cost, weighing, arithmetic_weight, scalar_weight, operation_cost}
use Rattle.mo_values.specs.Operations.{operate}
use Rattle.mo_values.specs.Parts.{same_part}
use Rattle.mo_values.specs.Shapes.{size}
use Rattle.mo_values.specs.Views.{Answer, Gives, Traps, Stuck, leaf_of, natural_of, text_of, array_of}
use Rattle.core_ir.specs.declared.primitive.Primitive.{Primitive}
use Rattle.core_ir.specs.declared.primitive.Primitive.TheVariants as primitive
use Rattle.core_ir.specs.Choices.{on_some}
use Rattle.core_ir.specs.Primitives as done
use Rattle.core_ir.specs.Primitives.{Done, Store, held, all_held, comparable, literal_weight, answered, operated, tested, written, written_in, celled, place_in, advanced, next, next_char, gives, whole_array, perform}
use Rattle.core_ir.specs.Values.{Handle, Value, flag_value, cell_of}
use Rattle.emitted_steps.specs.Operations.{Light}

-- ---- weights

arithmetic_paid : (o : Operator) → 1 ≤ arithmetic_weight o
arithmetic_paid operator.Add = omega arith
arithmetic_paid operator.Sub = omega arith
arithmetic_paid operator.Mul = omega arith
arithmetic_paid operator.Div = omega arith
arithmetic_paid operator.Rem = omega arith
arithmetic_paid operator.Pow = omega arith

scalar_paid : (s : Scalar) (n : ℕ) → 1 ≤ scalar_weight s n
scalar_paid scalar.Bool n = omega arith
scalar_paid (scalar.Number k) n = omega arith
scalar_paid scalar.Char n = omega arith
scalar_paid scalar.Text n = omega arith
scalar_paid scalar.Blob n = omega arith

operation_paid : (o : Operation) (vs : List Value) (a : Answer Handle) → 1 ≤ (operation_cost o vs a).weight
operation_paid (op.Arithmetic o k) vs a = arithmetic_paid o
operation_paid (op.Wrap o k) vs a = omega arith
operation_paid (op.Negate k) vs a = omega arith
operation_paid (op.Compare c s) vs a = scalar_paid s _
operation_paid (op.Same s) vs a = scalar_paid s _
operation_paid (op.Equal t) vs a = omega arith
operation_paid (op.Unequal t) vs a = omega arith
operation_paid op.Not vs a = omega arith
operation_paid op.Assert vs a = omega arith
operation_paid op.Concat vs a = omega arith
operation_paid op.TextSize vs a = omega arith
operation_paid (op.ToText k) vs a = omega arith
operation_paid op.MakeTuple vs a = omega arith
operation_paid op.MakeOption vs a = omega arith
operation_paid (op.MakeTag l) vs a = omega arith
operation_paid op.MakeArray vs a = omega arith
operation_paid (op.MakeObject ls) vs a = omega arith
operation_paid (op.Project i) vs a = omega arith
operation_paid (op.Field l) vs a = omega arith
operation_paid op.Element vs a = omega arith
operation_paid op.ArraySize vs a = omega arith
operation_paid (op.Method name) vs a = omega arith
operation_paid op.PrincipalOf vs a = omega arith
operation_paid op.RejectError vs a = omega arith
operation_paid op.Message vs a = omega arith
operation_paid op.Code vs a = omega arith
operation_paid op.Trap vs a = omega arith
operation_paid (op.Fail t) vs a = omega arith

literal_paid : (p : Datum) (v : Value) → 1 ≤ literal_weight p v
literal_paid part.Null v = omega arith
literal_paid (part.Flag b) v = omega arith
literal_paid (part.Number n) v = omega arith
literal_paid (part.Char c) v = omega arith
literal_paid (part.Text t) v = omega arith
literal_paid (part.Blob t) v = omega arith
literal_paid (part.Principal t) v = omega arith
literal_paid (part.Actor t) v = omega arith
literal_paid (part.Method p t) v = omega arith
literal_paid part.Present v = omega arith
literal_paid (part.Many n) v = omega arith
literal_paid (part.Record n) v = omega arith
literal_paid (part.Tag n) v = omega arith

-- ---- what has an answer

light_some : {X : Type 0} (n : ℕ) (o : Option X) (F : X → Done) → ((x : X) → Light n (F x)) → Light n (on_some done.Stuck o F)
light_some n None F k = tt
light_some n (Some x) F k = k x

module _ (head : TypeId → Node TypeId) (store : Store) where
  light_answer : (n : ℕ) (cost : Cost) (a : Answer Handle) → 1 ≤ cost.weight → n ≤ 4 * cost.weight → Light n (answered head store cost a)
  light_answer n cost (Gives v) one few = (one, few)
  light_answer n cost (Traps text) one few = (one, few)
  light_answer n cost Stuck one few = tt

  -- of at most two operands
  few_light : (o : Operation) (vs : List Value) → length vs ≤ 2 → Light (length vs) (operated head store o vs (operate head o vs))
  few_light o vs le =
      let one = operation_paid o vs (operate head o vs) in light_answer (length vs) (operation_cost o vs (operate head o vs)) (operate head o vs) one (omega (arith, one, le))

  more_light : (o : Operation) (u v w : Value) (vs : List Value) → Light (length (u ∷ v ∷ w ∷ vs)) (operated head store o (u ∷ v ∷ w ∷ vs) (operate head o (u ∷ v ∷ w ∷ vs)))
  more_light (op.Arithmetic o k) u v w vs = tt
  more_light (op.Wrap o k) u v w vs = tt
  more_light (op.Negate k) u v w vs = tt
  more_light (op.Compare c s) u v w vs = tt
  more_light (op.Same s) u v w vs = tt
  more_light (op.Equal t) u v w vs = tt
  more_light (op.Unequal t) u v w vs = tt
  more_light op.Not u v w vs = tt
  more_light op.Assert u v w vs = tt
  more_light op.Concat u v w vs = tt
  more_light op.TextSize u v w vs = tt
  more_light (op.ToText k) u v w vs = tt
  more_light op.MakeTuple u v w vs = (omega arith, omega arith)
  more_light op.MakeOption u v w vs = tt
  more_light (op.MakeTag l) u v w vs = tt
  more_light op.MakeArray u v w vs = (omega arith, omega arith)
  more_light (op.MakeObject ls) u v w vs =
      light_answer (length (u ∷ v ∷ w ∷ vs)) (operation_cost (op.MakeObject ls) (u ∷ v ∷ w ∷ vs) (operate head (op.MakeObject ls) (u ∷ v ∷ w ∷ vs))) (operate head (op.MakeObject ls) (u ∷ v ∷ w ∷ vs)) (omega arith) (omega arith)
  more_light (op.Project i) u v w vs = tt
  more_light (op.Field l) u v w vs = tt
  more_light op.Element u v w vs = tt
  more_light op.ArraySize u v w vs = tt
  more_light (op.Method name) u v w vs = tt
  more_light op.PrincipalOf u v w vs = tt
  more_light op.RejectError u v w vs = tt
  more_light op.Message u v w vs = tt
  more_light op.Code u v w vs = tt
  more_light op.Trap u v w vs = tt
  more_light (op.Fail t) u v w vs = tt

  operation_light : (o : Operation) (vs : List Value) → Light (length vs) (operated head store o vs (operate head o vs))
  operation_light o [] = few_light o [] (omega arith)
  operation_light o (u ∷ []) = few_light o (u ∷ []) (omega arith)
  operation_light o (u ∷ v ∷ []) = few_light o (u ∷ v ∷ []) (omega arith)
  operation_light o (u ∷ v ∷ w ∷ vs) = more_light o u v w vs

  test_light : (p : Datum) (v : Value) (o : Option Datum) → Light 1 (tested head store p v o)
  test_light p v None = tt
  test_light p v (Some d) = by (comparable p d)
    where
      by : (t : Bool) → Light 1 (cond t (done.Gives (weighing (literal_weight p v)) (flag_value (same_part p d)) store) done.Stuck)
      by true = let one = literal_paid p v in (one, omega (arith, one))
      by false = tt

  write_light : (n : ℕ) (v : Value) (o : Option ℕ) → n ≤ 4 → Light n (written head store v o)
  write_light n v None le = tt
  write_light n v (Some at) le = (omega arith, omega (arith, le))

  element_light : (v : Value) (a : Answer Handle) → Light 3 (written_in head store v a)
  element_light v (Gives c) = write_light 3 v (cell_of c) (omega arith)
  element_light v (Traps text) = (omega arith, omega arith)
  element_light v Stuck = tt

  advance_light : (weight : ℕ) (c v : Value) (a : Answer Handle) → 1 ≤ weight → Light 2 (advanced head store weight c v a)
  advance_light weight c v (Gives n) one = light_some 2 (cell_of c) _ (λ at. (omega arith, omega arith))
  advance_light weight c v (Traps text) one = (one, omega (arith, one))
  advance_light weight c v Stuck one = tt

  next_light : (weight : ℕ) (c : Value) (i : ℕ) (o : Option Value) → 1 ≤ weight → Light 2 (next head store weight c i o)
  next_light weight c i None one = (one, omega (arith, one))
  next_light weight c i (Some v) one = advance_light weight c v _ one

  pub light : (p : Primitive) (vs : List Value) → Light (length vs) (perform head store p vs)
  light (primitive.Operate o) vs = operation_light o vs
  light primitive.Copy [] = tt
  light primitive.Copy (v ∷ []) = (omega arith, omega arith)
  light primitive.Copy (v ∷ w ∷ vs) = tt
  light (primitive.Is p) [] = tt
  light (primitive.Is p) (v ∷ []) = test_light p v (leaf_of v)
  light (primitive.Is p) (v ∷ w ∷ vs) = tt
  light primitive.New [] = tt
  light primitive.New (v ∷ []) = (omega arith, omega arith)
  light primitive.New (v ∷ w ∷ vs) = tt
  light primitive.Read [] = tt
  light primitive.Read (c ∷ []) = light_some 1 (held store (cell_of c)) _ (λ v. (omega arith, omega arith))
  light primitive.Read (v ∷ w ∷ vs) = tt
  light primitive.Write [] = tt
  light primitive.Write (c ∷ []) = tt
  light primitive.Write (c ∷ v ∷ []) = write_light 2 v (cell_of c) (omega arith)
  light primitive.Write (c ∷ v ∷ w ∷ vs) = tt
  light primitive.WriteElement [] = tt
  light primitive.WriteElement (a ∷ []) = tt
  light primitive.WriteElement (a ∷ i ∷ []) = tt
  light primitive.WriteElement (a ∷ i ∷ v ∷ []) = element_light v (operate head op.Element (a ∷ i ∷ []))
  light primitive.WriteElement (a ∷ i ∷ v ∷ w ∷ vs) = tt
  light primitive.ArrayInit [] = tt
  light primitive.ArrayInit (n ∷ []) = tt
  light primitive.ArrayInit (n ∷ v ∷ []) = light_some 2 (natural_of n) _ (λ n. (omega arith, omega arith))
  light primitive.ArrayInit (n ∷ v ∷ w ∷ vs) = tt
  light primitive.ArrayFreeze [] = tt
  light primitive.ArrayFreeze (a ∷ []) = light_some 1 (array_of a) _ (λ cs. light_some 1 (all_held store cs) _ (λ vs. (omega arith, omega arith)))
  light primitive.ArrayFreeze (a ∷ v ∷ vs) = tt
  light primitive.ArrayThaw [] = tt
  light primitive.ArrayThaw (a ∷ []) = light_some 1 (array_of a) _ (λ vs. (omega arith, omega arith))
  light primitive.ArrayThaw (a ∷ v ∷ vs) = tt
  light primitive.IsMutable [] = tt
  light primitive.IsMutable (v ∷ []) = (omega arith, omega arith)
  light primitive.IsMutable (v ∷ w ∷ vs) = tt
  light primitive.NextChar [] = tt
  light primitive.NextChar (c ∷ []) = tt
  light primitive.NextChar (c ∷ t ∷ []) = light_some 2 (text_of t) _ (λ bytes. light_some 2 (place_in head store c) _ (λ i. next_light (1 + size t) c i _ (omega arith)))
  light primitive.NextChar (c ∷ t ∷ v ∷ vs) = tt
  light primitive.Print [] = tt
  light primitive.Print (t ∷ []) = light_some 1 (text_of t) _ (λ text. (omega arith, omega arith))
  light primitive.Print (t ∷ v ∷ vs) = tt
