use Rattle.std.proofs.Common.{◌∙◌, ℕ, [], ◌∷◌, ap}
use Rattle.typed_tree.specs.declared.expression.TypedExpression.{TypedExpression}
use Rattle.desugaring.specs.Frames.{exit, is_optional}
use Rattle.typed_tree.specs.declared.action.Action.TheVariants as action
use Rattle.kernel_nodes.specs.Made.{acts_at}
use Rattle.kernel_nodes.proofs.Rolling.{if_same}
use Rattle.kernel_parts.specs.Views.{tree_of}
use Rattle.kernel_forms.proofs.one.bang.Goals as goal

pub returns-clause-made : goal.returns-clause-made
returns-clause-made g c = if_same c.act_on.result (acts_at c.args.layer.now.types.now c.args.note.kind (action.Unwrap c.find_exit-exits.result) (c.in_ok-part.part ∷ [])) (acts_at c.args.layer.now.types.now c.args.note.kind (action.Unwrap (exit c.args.frames.now is_optional)) ((tree_of c.args.layer.now.types.now c.args.frames.now c.args.a.now) ∷ [])) (ap (λ (n : ℕ). acts_at c.args.layer.now.types.now c.args.note.kind (action.Unwrap n) (c.in_ok-part.part ∷ [])) c.find_exit-exits.ensures ∙ ap (λ (z : TypedExpression). acts_at c.args.layer.now.types.now c.args.note.kind (action.Unwrap (exit c.args.frames.now is_optional)) (z ∷ [])) c.in_ok-part.ensures.made) c.act_on.ensures
