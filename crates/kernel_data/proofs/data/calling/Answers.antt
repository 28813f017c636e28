use Rattle.std.proofs.Common.{◌∙◌, List, ◌∷◌, ap, map, sym}
use Rattle.typed_tree.specs.declared.expression.TypedExpression.{TypedExpression}
use Rattle.abstract_tree.specs.TreeView.{listed}
use Rattle.desugaring.specs.Expressions.{trees}
use Rattle.kernel_types.specs.Numbers.{definitions, number}
use Rattle.kernel_parts.specs.Views.{expression_in}
use Rattle.kernel_data.proofs.Several.{each_is}
use Rattle.typing_rules.specs.Heads.{members_head}
use Rattle.typing_rules.specs.Terms.{Term}
use Rattle.typing_rules.specs.TypedTrees.{type_of}
use Rattle.type_definitions.specs.Meanings.{term}
use Rattle.desugaring.specs.Expressions.{call_of}
use Rattle.kernel_members.specs.Accesses.{call_in}
use Rattle.kernel_parts.specs.Views.{tree_of}
use Rattle.kernel_parts.proofs.Typed.{type_is}
use Rattle.kernel_nodes.proofs.Rolling.{if_same}
use Rattle.kernel_data.proofs.data.calling.Goals as goal

pub returns-clause-made : goal.returns-clause-made
returns-clause-made g c =
    if_same c.call.result (call_in c.args.layer.now.types.now c.args.note.kind c.args.function.now.note.kind c.in_ok-parts.parts) (call_of (definitions c.args.layer.now.types.now) (number c.args.layer.now.types.now) (term c.args.layer.now.types.now.forms c.args.note.kind) (members_head (definitions c.args.layer.now.types.now) (type_of (expression_in c.args.layer.now.types.now c.args.function.now))) ((tree_of c.args.layer.now.types.now c.args.frames.now c.args.function.now) ∷ (trees (definitions c.args.layer.now.types.now) (number c.args.layer.now.types.now) c.args.frames.now (listed (map (expression_in c.args.layer.now.types.now) c.args.arguments.now)))))
    (ap (λ (l : List TypedExpression). call_in c.args.layer.now.types.now c.args.note.kind c.args.function.now.note.kind l) (c.in_ok-parts.ensures.made ∙ ap (λ (l : List TypedExpression). (tree_of c.args.layer.now.types.now c.args.frames.now c.args.function.now) ∷ l) (each_is c.args.layer.now.types.now c.args.frames.now c.args.arguments.now))
    ∙ ap (λ (u : Term). call_of (definitions c.args.layer.now.types.now) (number c.args.layer.now.types.now) (term c.args.layer.now.types.now.forms c.args.note.kind) (members_head (definitions c.args.layer.now.types.now) u) ((tree_of c.args.layer.now.types.now c.args.frames.now c.args.function.now) ∷ (trees (definitions c.args.layer.now.types.now) (number c.args.layer.now.types.now) c.args.frames.now (listed (map (expression_in c.args.layer.now.types.now) c.args.arguments.now))))) (sym (type_is c.args.layer.now.types.now c.args.function.now))) c.call.ensures
