use Rattle.std.proofs.Common.{◌∙◌, ap, sym}
use Rattle.typing_rules.specs.Heads.{members_head}
use Rattle.typing_rules.specs.Terms.{Term}
use Rattle.typing_rules.specs.TypedTrees.{type_of}
use Rattle.typed_tree.specs.declared.expression.TypedExpression.{TypedExpression}
use Rattle.type_definitions.specs.Meanings.{term}
use Rattle.desugaring.specs.Expressions.{member_of}
use Rattle.kernel_types.specs.Numbers.{definitions, number}
use Rattle.kernel_members.specs.Accesses.{member_in}
use Rattle.kernel_nodes.proofs.Rolling.{if_same}
use Rattle.kernel_parts.specs.Views.{expression_in, tree_of}
use Rattle.kernel_parts.proofs.Typed.{type_is}
use Rattle.kernel_forms.proofs.one.member.Goals as goal

pub returns-clause-made : goal.returns-clause-made
returns-clause-made g c = if_same c.member.result (member_in c.args.layer.now.types.now c.args.note.kind c.args.name.now c.args.a.now.note.kind c.in_ok-part.part) (member_of (definitions c.args.layer.now.types.now) (number c.args.layer.now.types.now) (term c.args.layer.now.types.now.forms c.args.note.kind) c.args.name.now (members_head (definitions c.args.layer.now.types.now) (type_of (expression_in c.args.layer.now.types.now c.args.a.now))) (tree_of c.args.layer.now.types.now c.args.frames.now c.args.a.now)) (ap (λ (z : TypedExpression). member_in c.args.layer.now.types.now c.args.note.kind c.args.name.now c.args.a.now.note.kind z) c.in_ok-part.ensures.made ∙ ap (λ (u : Term). member_of (definitions c.args.layer.now.types.now) (number c.args.layer.now.types.now) (term c.args.layer.now.types.now.forms c.args.note.kind) c.args.name.now (members_head (definitions c.args.layer.now.types.now) u) (tree_of c.args.layer.now.types.now c.args.frames.now c.args.a.now)) (sym (type_is c.args.layer.now.types.now c.args.a.now))) c.member.ensures
