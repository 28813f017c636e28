-- A small expression over a small graph of types: `let x = 1; x + 1` (Motoko language manual, sections "Let declaration" and "Binary operators").
use Rattle.std.specs.Prelude.{List, [], ◌∷◌, false, Option, Some, None}
use Rattle.mo_num.specs.declared.kind.Kind.TheVariants as kind
use Rattle.mo_num.specs.declared.operator.Operator.TheVariants as operator
use Rattle.mo_types.specs.declared.node.Node.{Node}
use Rattle.mo_types.specs.declared.node.Node.TheVariants as node
use Rattle.mo_types.specs.declared.node.TypeId.{TypeId}
use Rattle.mo_types.specs.Graph.{Slot, Interned, head_at}
use Rattle.mo_values.specs.declared.operation.Operation.TheVariants as op
use Rattle.typed_tree.specs.declared.action.Action.TheVariants as action
use Rattle.typed_tree.specs.Language.{Exp, Val, Name, Do, let_in}
use Rattle.typed_tree.specs.Patterns.{Bind}
use Rattle.mo_meaning.specs.Acts.{Act, Goes}
use Rattle.mo_meaning.specs.Members.{number}
use Rattle.mo_meaning.specs.Places.{two}
use Rattle.mo_meaning.specs.Reduce.{reduce}
use Rattle.mo_soundness.specs.Circle.{at}
use Rattle.mo_soundness.specs.Running.{AnswerTypes}

-- Bool, () and Nat
abbrev pub basics : List Slot
basics = Interned node.Bool ∷ Interned (node.Tuple []) ∷ Interned (node.Number kind.Nat) ∷ []

abbrev pub basic_head : TypeId → Node TypeId
basic_head = head_at basics

abbrev pub nat : TypeId
nat = at 2

-- no calls are under way, and none may be made
abbrev pub no_calls : AnswerTypes
no_calls = record { types = λ n. None; may_call = false }

abbrev pub sum : Exp
sum = let_in Bind (Val (number 1)) (Do (action.Operate (op.Arithmetic operator.Add kind.Nat)) (two (Name 0) (Val (number 1))))

-- what a reduction that goes on comes to
abbrev pub next : Act → Option Exp
next (Goes cost store e) = Some e
next _ = None

abbrev pub again : Option Exp → Option Exp
again None = None
again (Some e) = next (reduce basic_head None [] e)

abbrev pub reached_twice : Option Exp
reached_twice = again (again (Some sum))
