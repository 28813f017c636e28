use Rattle.std.proofs.Common.{[], ◌∷◌, ap}
use Rattle.typed_tree.specs.declared.expression.TypedExpression.{TypedExpression}
use Rattle.kernel_nodes.proofs.Rolling.{if_same}
use Rattle.kernel_parts.specs.Views.{tree_of}
use Rattle.typed_tree.specs.declared.action.Action.TheVariants as action
use Rattle.kernel_nodes.specs.Made.{acts_at}
use Rattle.kernel_forms.proofs.one.awaiting.Goals as goal

pub returns-clause-made : goal.returns-clause-made
returns-clause-made g c = if_same c.act_on.result (acts_at c.args.layer.now.types.now c.args.note.kind action.Await (c.in_ok-part.part ∷ [])) (acts_at c.args.layer.now.types.now c.args.note.kind action.Await ((tree_of c.args.layer.now.types.now c.args.frames.now c.args.a.now) ∷ [])) (ap (λ (z : TypedExpression). acts_at c.args.layer.now.types.now c.args.note.kind action.Await (z ∷ [])) c.in_ok-part.ensures.made) c.act_on.ensures
