-- Elements and fields, with the types as they are in the table and in the graph.
use Rattle.std.specs.Prelude.{ℕ, List}
use Rattle.mo_types.specs.declared.node.TypeId.{TypeId}
use Rattle.typed_tree.specs.declared.expression.TypedExpression.{TypedExpression}
use Rattle.typing_rules.specs.TypedTrees.{type_of}
use Rattle.type_terms.specs.declared.form.TermId.{TermId}
use Rattle.abstract_tree.specs.declared.expressions.Expression.{Expression}
use Rattle.abstract_tree.specs.declared.expressions.ObjectField.{ObjectField}
use Rattle.value_scopes.specs.declared.note.Note.{Note}
use Rattle.met_types.specs.States.{State}
use Rattle.desugaring.specs.Expressions as expressions
use Rattle.desugaring.specs.Frames.{Frame}
use Rattle.kernel_types.specs.Numbers.{definitions, head_of, number}
use Rattle.kernel_nodes.specs.Made.{cell_at}
use Rattle.kernel_parts.specs.Views.{expression_in, tree_of}

-- a part as a new cell
abbrev pub cells_of : State → Frame → TypeId → Expression Note → TypedExpression
cells_of s f u a = cell_at u (tree_of s f a)

abbrev pub label_of : ObjectField Note → List ℕ
label_of x = x.name.bytes

-- the number of the type of a field
abbrev pub cell_number_of : State → TermId → ObjectField Note → TypeId
cell_number_of s kind x = number s (expressions.part_or (type_of (expression_in s x.value)) (expressions.field_of x.name.bytes (head_of s kind)))

abbrev pub field_of : State → Frame → TermId → ObjectField Note → TypedExpression
field_of s f kind x = expressions.field_value (definitions s) (number s) (head_of s kind) x.mutable x.name.bytes (expression_in s x.value) (tree_of s f x.value)
