-- Each primitive that gives a value weighs something.
use Rattle.std.proofs.Common.{ℕ, ◌+◌, ◌≤◌, List, [], ◌∷◌, Bool, true, false, Option, Some, None, arith as arithmetic}
use Rattle.std.specs.Prelude.{cond, slice_get}
use Rattle.std.specs.Str.{chars}
use Rattle.mo_num.specs.declared.kind.Kind.TheVariants as kind
use Rattle.mo_num.specs.declared.operator.Operator.{Operator}
use Rattle.mo_num.specs.declared.operator.Operator.TheVariants as operator
use Rattle.mo_types.specs.declared.datum.Datum.{Datum}
use Rattle.mo_types.specs.declared.datum.Datum.TheVariants as part
use Rattle.mo_types.specs.declared.node.Node.{Node}
use Rattle.mo_types.specs.declared.node.TypeId.{TypeId}
use Rattle.mo_values.specs.declared.operation.Operation.{Operation}
use Rattle.mo_values.specs.declared.operation.Operation.TheVariants as op
use Rattle.mo_values.specs.declared.operation.Scalar.{Scalar}
use Rattle.mo_values.specs.declared.operation.Scalar.TheVariants as scalar
use Rattle.mo_values.specs.Costs.{weighing, arithmetic_weight, scalar_weight, operation_cost}
use Rattle.mo_values.specs.Operations.{operate}
use Rattle.mo_values.specs.Parts.{same_part}
use Rattle.mo_values.specs.Shapes.{size, leaf}
use Rattle.mo_values.specs.Views as answer
use Rattle.mo_values.specs.Views.{Answer, leaf_of, natural_of, text_of, array_of}
use Rattle.core_ir.specs.declared.primitive.Primitive.{Primitive}
use Rattle.core_ir.specs.declared.primitive.Primitive.TheVariants as primitive
use Rattle.core_ir.specs.Choices.{on_some}
use Rattle.core_ir.specs.Values.{Handle, Value, flag_value, number, cell_of}
use Rattle.core_ir.specs.Primitives.{Store, Done, Gives, Stuck, comparable, literal_weight, tested, operated, written, written_in, advanced, next, perform, held, place_in, all_held}
use Rattle.core_laws.proofs.Given.{Heavy}

on : {B : Type 0} (o : Option B) (k : B → Done) → ((b : B) → Heavy (k b)) → Heavy (on_some Stuck o k)
on None k h = tt
on (Some b) k h = h b

arithmetic_pays : (o : Operator) → 1 ≤ arithmetic_weight o
arithmetic_pays operator.Div = omega arithmetic
arithmetic_pays operator.Rem = omega arithmetic
arithmetic_pays operator.Pow = omega arithmetic
arithmetic_pays operator.Add = omega arithmetic
arithmetic_pays operator.Sub = omega arithmetic
arithmetic_pays operator.Mul = omega arithmetic

literal_pays : (c : Datum) (v : Value) → 1 ≤ literal_weight c v
literal_pays (part.Text t) v = omega arithmetic
literal_pays (part.Blob t) v = omega arithmetic
literal_pays _ v = omega arithmetic

scalar_pays : (s : Scalar) (n : ℕ) → 1 ≤ scalar_weight s n
scalar_pays scalar.Text n = omega arithmetic
scalar_pays scalar.Blob n = omega arithmetic
scalar_pays scalar.Bool n = omega arithmetic
scalar_pays (scalar.Number k) n = omega arithmetic
scalar_pays scalar.Char n = omega arithmetic

operation_pays : (o : Operation) (vs : List Value) (a : Answer Handle) → 1 ≤ (operation_cost o vs a).weight
operation_pays (op.Arithmetic o k) vs a = arithmetic_pays o
operation_pays (op.Compare c s) vs a = scalar_pays s _
operation_pays (op.Same s) vs a = scalar_pays s _
operation_pays (op.Equal t) vs a = omega arithmetic
operation_pays (op.Unequal t) vs a = omega arithmetic
operation_pays op.Concat vs a = omega arithmetic
operation_pays op.TextSize vs a = omega arithmetic
operation_pays (op.ToText k) vs a = omega arithmetic
operation_pays op.MakeTuple vs a = omega arithmetic
operation_pays op.MakeOption vs a = omega arithmetic
operation_pays (op.MakeTag l) vs a = omega arithmetic
operation_pays op.MakeArray vs a = omega arithmetic
operation_pays (op.MakeObject ls) vs a = omega arithmetic
operation_pays (op.Method name) vs a = omega arithmetic
operation_pays op.PrincipalOf vs a = omega arithmetic
operation_pays op.RejectError vs a = omega arithmetic
operation_pays op.Code vs a = omega arithmetic
operation_pays op.Trap vs a = omega arithmetic
operation_pays (op.Fail t) vs a = omega arithmetic
operation_pays o vs a = omega arithmetic

module _ (head : TypeId → Node TypeId) (store : Store) where
  answered_pays : (o : Operation) (vs : List Value) (a : Answer Handle) → Heavy (operated head store o vs a)
  answered_pays o vs (answer.Gives v) = operation_pays o vs (answer.Gives v)
  answered_pays o vs (answer.Traps text) = tt
  answered_pays o vs answer.Stuck = tt

  tested_pays : (c : Datum) (v : Value) (o : Option Datum) → Heavy (tested head store c v o)
  tested_pays c v None = tt
  tested_pays c v (Some d) = by_test (comparable c d)
    where
      by_test : (b : Bool) → Heavy (cond b (Gives (weighing (literal_weight c v)) (flag_value (same_part c d)) store) Stuck)
      by_test true = literal_pays c v
      by_test false = tt

  written_pays : (v : Value) (o : Option ℕ) → Heavy (written head store v o)
  written_pays v None = tt
  written_pays v (Some at) = omega arithmetic

  written_in_pays : (v : Value) (a : Answer Handle) → Heavy (written_in head store v a)
  written_in_pays v (answer.Gives c) = written_pays v (cell_of c)
  written_in_pays v (answer.Traps text) = tt
  written_in_pays v answer.Stuck = tt

  advanced_pays : (w : ℕ) (c v : Value) (a : Answer Handle) → Heavy (advanced head store w c v a)
  advanced_pays w c v (answer.Gives n) = on (cell_of c) _ (λ at. omega arithmetic)
  advanced_pays w c v (answer.Traps text) = tt
  advanced_pays w c v answer.Stuck = tt

  next_pays : (w : ℕ) (c : Value) (i : ℕ) (o : Option Value) → 1 ≤ w → Heavy (next head store w c i o)
  next_pays w c i None h = h
  next_pays w c i (Some v) h = advanced_pays w c v (operate head (op.Arithmetic operator.Add kind.Nat) (number i ∷ number 1 ∷ []))

  pub heavy : (p : Primitive) (vs : List Value) → Heavy (perform head store p vs)
  heavy (primitive.Operate o) vs = answered_pays o vs (operate head o vs)
  heavy primitive.Copy (v ∷ []) = omega arithmetic
  heavy (primitive.Is c) (v ∷ []) = tested_pays c v (leaf_of v)
  heavy primitive.New (v ∷ []) = omega arithmetic
  heavy primitive.Read (c ∷ []) = on (held store (cell_of c)) _ (λ v. omega arithmetic)
  heavy primitive.Write (c ∷ v ∷ []) = written_pays v (cell_of c)
  heavy primitive.WriteElement (a ∷ i ∷ v ∷ []) = written_in_pays v (operate head op.Element (a ∷ i ∷ []))
  heavy primitive.ArrayInit (n ∷ v ∷ []) = on (natural_of n) _ (λ n. omega arithmetic)
  heavy primitive.ArrayFreeze (a ∷ []) = on (array_of a) _ (λ cs. on (all_held store cs) _ (λ vs. omega arithmetic))
  heavy primitive.ArrayThaw (a ∷ []) = on (array_of a) _ (λ vs. omega arithmetic)
  heavy primitive.IsMutable (v ∷ []) = omega arithmetic
  heavy primitive.NextChar (c ∷ t ∷ []) =
      on (text_of t) _ (λ bytes. on (place_in head store c) _ (λ i. next_pays (1 + size t) c i (on_some None (slice_get (chars bytes) i) (λ c. Some (leaf (part.Char c)))) (omega arithmetic)))
  heavy primitive.Print (t ∷ []) = on (text_of t) _ (λ text. tt)
  heavy _ _ = tt
