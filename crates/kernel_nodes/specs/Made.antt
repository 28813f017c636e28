-- Nodes with the types as they are in the table and in the graph.
use Rattle.std.specs.Prelude.{ℕ, Bool, List, [], ◌∷◌}
use Rattle.mo_types.specs.declared.node.TypeId.{TypeId}
use Rattle.mo_values.specs.declared.operation.Operation.{Operation}
use Rattle.typed_tree.specs.declared.action.Action.{Action}
use Rattle.typed_tree.specs.declared.action.Action.TheVariants as action
use Rattle.typed_tree.specs.declared.literal.Literal.{Literal}
use Rattle.typed_tree.specs.declared.expression.Form.{Form}
use Rattle.typed_tree.specs.declared.expression.Form.TheOpen as F
use Rattle.typed_tree.specs.declared.expression.Function.{Function}
use Rattle.typed_tree.specs.declared.expression.Step.{Step, roll-Step}
use Rattle.typed_tree.specs.declared.expression.TypedExpression.{TypedExpression, roll-TypedExpression}
use Rattle.type_terms.specs.declared.form.TermId.{TermId}
use Rattle.type_definitions.specs.Meanings.{term}
use Rattle.met_types.specs.States.{State}
use Rattle.desugaring.specs.Nodes as nodes
use Rattle.desugaring.specs.Expressions as expressions
use Rattle.kernel_types.specs.Numbers.{definitions, number}

-- the expression of a form at the type of a number
abbrev pub on : TypeId → Form → TypedExpression
on u f = roll-TypedExpression (record { of_type = u; form = f })

-- a new cell at the type of a number
abbrev pub cell_at : TypeId → TypedExpression → TypedExpression
cell_at u e = nodes.node_of u (F.Do action.New (e ∷ []))

abbrev pub functions_step : List Function → Step
functions_step fs = roll-Step (F.Functions fs)

abbrev pub evaluate_step : TypedExpression → Step
evaluate_step e = roll-Step (F.Evaluate e)

module _ (s : State) where
  abbrev pub unit_in : TypedExpression
  unit_in = nodes.unit_value (definitions s) (number s)

  abbrev pub flag_in : Bool → TypedExpression
  flag_in b = nodes.flag (definitions s) (number s) b

  module _ (kind : TermId) where
    abbrev pub at_type : nodes.Layer → TypedExpression
    at_type x = nodes.at (definitions s) (number s) (term s.forms kind) x

    abbrev pub acts_at : Action → List TypedExpression → TypedExpression
    acts_at a es = nodes.acts (definitions s) (number s) (term s.forms kind) a es

    abbrev pub operates_at : Operation → List TypedExpression → TypedExpression
    operates_at o es = nodes.operates (definitions s) (number s) (term s.forms kind) o es

    abbrev pub constant_at : Literal → TypedExpression
    constant_at l = nodes.constant (definitions s) (number s) (term s.forms kind) l

    abbrev pub name_at : ℕ → TypedExpression
    name_at n = at_type (F.Name n)

    abbrev pub held_at : Bool → TypedExpression → TypedExpression
    held_at is_cell e = nodes.held (definitions s) (number s) (term s.forms kind) is_cell e

    abbrev pub named_at : ℕ → Bool → TypedExpression
    named_at n is_cell = held_at is_cell (name_at n)

    abbrev pub tuple_at : List TypedExpression → TypedExpression
    tuple_at es = expressions.tuple_of (definitions s) (number s) (term s.forms kind) es

    abbrev pub leaves_at : ℕ → TypedExpression → TypedExpression
    leaves_at n e = expressions.leaves (definitions s) (number s) (term s.forms kind) n e

    -- a function of a group of its own
    abbrev pub alone_at : Function → TypedExpression
    alone_at f = at_type (F.Block (functions_step (f ∷ []) ∷ []) (name_at 0))

    abbrev pub widened_at : TypedExpression → TypedExpression
    widened_at a = at_type (F.Block [] a)

    abbrev pub ignored_at : TypedExpression → TypedExpression
    ignored_at a = at_type (F.Block (evaluate_step a ∷ []) unit_in)
