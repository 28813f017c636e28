-- The types of parts.
use Rattle.std.proofs.Common.{◌≡◌, ap}
use Rattle.typing_rules.specs.TypedTrees.{type_of}
use Rattle.typing_rules.specs.TypedTrees as trees
use Rattle.typing_rules.specs.AbstractSyntax as p
use Rattle.abstract_tree.specs.declared.expressions.Expression.{Expression}
use Rattle.value_scopes.specs.declared.note.Note.{Note}
use Rattle.value_scopes.specs.Values.{noted}
use Rattle.type_definitions.specs.Meanings.{term}
use Rattle.met_types.specs.States.{State}
use Rattle.judged_parts.proofs.TreeViews.{expression_is}
use Rattle.kernel_parts.specs.Views.{expression_in}

pub type_is : (s : State) (a : Expression Note) → type_of (expression_in s a) ≡ term s.forms a.note.kind
type_is s a = ap (λ (z : p.Expression trees.Note). type_of z) (expression_is (noted s.forms) a)
