-- In a well-typed program each action has its operands (Motoko language manual, sections "Expressions" and "Declarations").
use Rattle.mo_types.specs.declared.node.TypeId.{TypeId}
use Rattle.mo_types.specs.Graph.{Slot}
use Rattle.typed_tree.specs.declared.expression.Function.{Function}
use Rattle.typed_tree.specs.declared.expression.TypedExpression.{TypedExpression}
use Rattle.typed_tree.specs.declared.program.Program.{Program}
use Rattle.typed_tree.specs.ActionTypes.{Context}
use Rattle.typed_tree.specs.ProgramView.{program}
use Rattle.typed_tree.specs.Typing.{Signature, Typed, IsFunctionOf}
use Rattle.typed_tree.specs.View.{expression, function}
use Rattle.typed_tree.specs.Wants.{Want}
use Rattle.typed_tree.specs.WellTyped.{WellTyped}
use Rattle.std.specs.Prelude.{List}
use Rattle.elaboration_formed.specs.Arities.{Shaped}

abbrev pub TreesAreShaped : Type 0
TreesAreShaped = (types : List Slot) (e : TypedExpression) (c : Context) (w : Want TypeId) → Typed types e c w → Shaped (expression e)

abbrev pub FunctionsAreShaped : Type 0
FunctionsAreShaped = (types : List Slot) (f : Function) (c : Context) (g : Signature) → IsFunctionOf types f c g → Shaped (function f).body

abbrev pub ProgramsAreShaped : Type 0
ProgramsAreShaped = (p : Program) → WellTyped p → Shaped (program p).body
