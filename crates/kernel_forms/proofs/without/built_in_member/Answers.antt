use Rattle.std.proofs.Common.{◌∙◌, List, [], ap}
use Rattle.typed_tree.specs.declared.action.Action.TheVariants as action
use Rattle.typed_tree.specs.declared.action.Member.{Member}
use Rattle.typed_tree.specs.declared.expression.TypedExpression.{TypedExpression}
use Rattle.desugaring.specs.Frames.{Frame}
use Rattle.desugaring.specs.Nodes.{built_in}
use Rattle.kernel_nodes.specs.Made.{acts_at}
use Rattle.kernel_nodes.proofs.Rolling.{if_same}
use Rattle.kernel_forms.proofs.without.built_in_member.Goals as goal

pub returns : goal.returns
returns c = λ (f : Frame).
    if_same c.acts.result (acts_at c.args.types.now c.args.note.kind (action.BuiltIn c.built_in.result) c.new.result) (acts_at c.args.types.now c.args.note.kind (action.BuiltIn (built_in c.args.member)) [])
    (ap (λ (m : Member). acts_at c.args.types.now c.args.note.kind (action.BuiltIn m) c.new.result) c.built_in.ensures ∙ ap (λ (l : List TypedExpression). acts_at c.args.types.now c.args.note.kind (action.BuiltIn (built_in c.args.member)) l) c.new.ensures) c.acts.ensures
