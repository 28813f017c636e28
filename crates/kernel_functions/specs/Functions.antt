-- Functions with the types as they are in the table and in the graph.
use Rattle.std.specs.Prelude.{ℕ, ◌+◌, [], ◌∷◌, map}
use Rattle.mo_types.specs.declared.node.Sort.TheVariants as sort
use Rattle.mo_types.specs.declared.node.TypeId.{TypeId}
use Rattle.typed_tree.specs.declared.expression.Function.{Function, roll-Function}
use Rattle.typed_tree.specs.declared.expression.TypedExpression.{TypedExpression}
use Rattle.typing_rules.specs.Nodes as counts
use Rattle.typing_rules.specs.Terms as t
use Rattle.typing_rules.specs.TypeScopes.{names_of, places_of}
use Rattle.abstract_tree.specs.declared.expressions.Expression.{Expression}
use Rattle.abstract_types.specs.declared.patterns.Signature.{Signature}
use Rattle.abstract_types.specs.declared.types.TypeParameter.{TypeParameter}
use Rattle.abstract_types.specs.PatternView.{signature}
use Rattle.value_scopes.specs.declared.note.Note.{Note}
use Rattle.value_scopes.specs.Values.{noted}
use Rattle.met_types.specs.States.{State}
use Rattle.desugaring.specs.Expressions.{function_of, tree}
use Rattle.desugaring.specs.Frames.{Frame, Unnamed, with_entries}
use Rattle.desugaring.specs.Patterns.{patterns}
use Rattle.kernel_types.specs.Numbers.{definitions, number}
use Rattle.kernel_parts.specs.Views.{expression_in}
use Rattle.kernel_scopes.specs.Bound.{patterns_in}

abbrev pub parameter_of : State → TypeParameter → TypeId
parameter_of s x = number s (t.Parameter x.name.at)

abbrev pub nodes_of : State → Signature Note → Expression Note → ℕ
nodes_of s g body = counts.in_patterns (patterns_in s g.parameters) + counts.in_expression (expression_in s body)

-- a function of the signature, with so many nodes and this body
abbrev pub made_of : State → Signature Note → ℕ → TypedExpression → Function
made_of s g nodes body = roll-Function (record {
  sort = sort.Local;
  type_parameters = map (λ n. number s (t.Parameter n)) (places_of (names_of (signature (noted s.forms) g).generics));
  nodes = nodes;
  parameters = patterns (definitions s) (number s) (signature (noted s.forms) g).parameters;
  body = body;
})

abbrev pub function_in : State → Frame → Signature Note → Expression Note → Function
function_in s f g body = function_of (definitions s) (number s) sort.Local (signature (noted s.forms) g) (nodes_of s g body) (λ inner. tree (definitions s) (number s) inner (expression_in s body)) f

-- the function in a group of its own
abbrev pub unnamed_in : State → Frame → Signature Note → Expression Note → Function
unnamed_in s f g body = function_in s (with_entries (Unnamed ∷ []) f) g body
