use Rattle.std.proofs.Common.{◌∙◌, ap, sym}
use Rattle.typed_tree.specs.declared.expression.TypedExpression.{TypedExpression}
use Rattle.typing_rules.specs.Heads.{members_head}
use Rattle.typing_rules.specs.Terms.{Term}
use Rattle.typing_rules.specs.TypedTrees.{type_of}
use Rattle.type_definitions.specs.Meanings.{term}
use Rattle.kernel_types.specs.Numbers.{definitions, number}
use Rattle.kernel_nodes.proofs.Rolling.{if_same}
use Rattle.kernel_parts.specs.Views.{expression_in, tree_of}
use Rattle.kernel_parts.proofs.Typed.{type_is}
use Rattle.desugaring.specs.Expressions.{element_at}
use Rattle.kernel_members.specs.Accesses.{element_in}
use Rattle.kernel_choices.proofs.choices.index.Goals as goal

pub returns-clause-made : goal.returns-clause-made
returns-clause-made g c =
    if_same c.element.result (element_in c.args.layer.now.types.now c.args.note.kind c.args.a.now.note.kind c.in_ok-parts.parts.0 c.in_ok-parts.parts.1) (element_at (definitions c.args.layer.now.types.now) (number c.args.layer.now.types.now) (term c.args.layer.now.types.now.forms c.args.note.kind) (members_head (definitions c.args.layer.now.types.now) (type_of (expression_in c.args.layer.now.types.now c.args.a.now))) (tree_of c.args.layer.now.types.now c.args.frames.now c.args.a.now) (tree_of c.args.layer.now.types.now c.args.frames.now c.args.i.now))
    (ap (λ (z : TypedExpression). element_in c.args.layer.now.types.now c.args.note.kind c.args.a.now.note.kind z c.in_ok-parts.parts.1) c.in_ok-parts.ensures.first ∙ (ap (λ (z : TypedExpression). element_in c.args.layer.now.types.now c.args.note.kind c.args.a.now.note.kind (tree_of c.args.layer.now.types.now c.args.frames.now c.args.a.now) z) c.in_ok-parts.ensures.second ∙ ap (λ (u : Term). element_at (definitions c.args.layer.now.types.now) (number c.args.layer.now.types.now) (term c.args.layer.now.types.now.forms c.args.note.kind) (members_head (definitions c.args.layer.now.types.now) u) (tree_of c.args.layer.now.types.now c.args.frames.now c.args.a.now) (tree_of c.args.layer.now.types.now c.args.frames.now c.args.i.now)) (sym (type_is c.args.layer.now.types.now c.args.a.now)))) c.element.ensures
