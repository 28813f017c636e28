-- Cells that are assigned to, and numbers with their signs.
use Rattle.std.specs.Prelude.{ℕ, true, [], ◌∷◌}
use Rattle.typed_tree.specs.declared.action.Action.TheVariants as action
use Rattle.typed_tree.specs.declared.expression.TypedExpression.{TypedExpression}
use Rattle.typing_rules.specs.AbstractSyntax as p
use Rattle.type_terms.specs.declared.form.TermId.{TermId}
use Rattle.abstract_tree.specs.declared.expressions.Expression.{Expression}
use Rattle.value_scopes.specs.declared.note.Note.{Note}
use Rattle.met_types.specs.States.{State}
use Rattle.desugaring.specs.Expressions.{cell_tree}
use Rattle.desugaring.specs.Frames.{Frame}
use Rattle.desugaring.specs.Nodes.{literal_at}
use Rattle.kernel_types.specs.Numbers.{definitions, head_of, number}
use Rattle.kernel_nodes.specs.Made.{acts_at, constant_at}
use Rattle.kernel_operators.specs.Operations.{negated_in}
use Rattle.kernel_parts.specs.Views.{expression_in, tree_of}

abbrev pub signed_of : State → TermId → ℕ → TypedExpression
signed_of s kind m = constant_at s kind (literal_at true (p.Number m) (head_of s kind))

module _ (s : State) (f : Frame) where
  abbrev pub cell_of : Expression Note → TypedExpression
  cell_of q = cell_tree (definitions s) (number s) f (expression_in s q)

  abbrev pub written_of : TermId → Expression Note → Expression Note → TypedExpression
  written_of kind q a = acts_at s kind action.Write (cell_of q ∷ tree_of s f a ∷ [])

  abbrev pub element_written_of : TermId → Expression Note → Expression Note → Expression Note → TypedExpression
  element_written_of kind b i a = acts_at s kind action.WriteElement (tree_of s f b ∷ tree_of s f i ∷ tree_of s f a ∷ [])

  abbrev pub negated_of : TermId → Expression Note → TypedExpression
  negated_of kind a = negated_in s kind (tree_of s f a)
