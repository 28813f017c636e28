use Rattle.std.proofs.Common.{◌∙◌, ap, sym}
use Rattle.typed_tree.specs.declared.expression.TypedExpression.{TypedExpression}
use Rattle.typing_rules.specs.Terms.{Term}
use Rattle.typing_rules.specs.TypedTrees.{type_of}
use Rattle.type_definitions.specs.Meanings.{term}
use Rattle.kernel_types.specs.Numbers.{definitions, number}
use Rattle.kernel_nodes.proofs.Rolling.{if_same}
use Rattle.kernel_parts.specs.Views.{expression_in, tree_of}
use Rattle.kernel_parts.proofs.Typed.{type_is}
use Rattle.desugaring.specs.Nodes.{binary}
use Rattle.kernel_operators.specs.Operations.{binary_in}
use Rattle.kernel_choices.proofs.choices.binary.Goals as goal

pub returns-clause-made : goal.returns-clause-made
returns-clause-made g c =
    if_same c.binary.result (binary_in c.args.layer.now.types.now c.args.operator c.args.note.kind c.args.a.now.note.kind c.in_ok-parts.parts.0 c.in_ok-parts.parts.1) (binary (definitions c.args.layer.now.types.now) (number c.args.layer.now.types.now) c.args.operator (term c.args.layer.now.types.now.forms c.args.note.kind) (type_of (expression_in c.args.layer.now.types.now c.args.a.now)) (tree_of c.args.layer.now.types.now c.args.frames.now c.args.a.now) (tree_of c.args.layer.now.types.now c.args.frames.now c.args.b.now))
    (ap (λ (z : TypedExpression). binary_in c.args.layer.now.types.now c.args.operator c.args.note.kind c.args.a.now.note.kind z c.in_ok-parts.parts.1) c.in_ok-parts.ensures.first ∙ (ap (λ (z : TypedExpression). binary_in c.args.layer.now.types.now c.args.operator c.args.note.kind c.args.a.now.note.kind (tree_of c.args.layer.now.types.now c.args.frames.now c.args.a.now) z) c.in_ok-parts.ensures.second ∙ ap (λ (u : Term). binary (definitions c.args.layer.now.types.now) (number c.args.layer.now.types.now) c.args.operator (term c.args.layer.now.types.now.forms c.args.note.kind) u (tree_of c.args.layer.now.types.now c.args.frames.now c.args.a.now) (tree_of c.args.layer.now.types.now c.args.frames.now c.args.b.now)) (sym (type_is c.args.layer.now.types.now c.args.a.now)))) c.binary.ensures
