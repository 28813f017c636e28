use Rattle.std.proofs.Common.{◌∙◌, List, ap, map, refl, sym}
use Rattle.typed_tree.specs.declared.expression.TypedExpression.{TypedExpression}
use Rattle.typed_tree.specs.declared.expression.Form.TheVariants as f
use Rattle.typed_tree.specs.declared.expression.Form.TheOpen as F
use Rattle.kernel_types.specs.Numbers.{definitions, number, number_of}
use Rattle.kernel_nodes.proofs.Rolling.{made_as}
use Rattle.kernel_parts.specs.Views.{tree_of}
use Rattle.typed_tree.specs.declared.expression.Case.{Case}
use Rattle.abstract_tree.specs.TreeView.{case, cases}
use Rattle.value_scopes.specs.Values.{noted}
use Rattle.desugaring.specs.Expressions.{case_trees}
use Rattle.desugaring.specs.Frames.{Frame}
use Rattle.kernel_loops.specs.Loops.{case_of}
use Rattle.kernel_loops.proofs.Under.{cases_are}
use Rattle.kernel_loops.proofs.binding.switching.Goals as goal

pub returns-clause-made : goal.returns-clause-made
returns-clause-made g c =
    made_as c.at.result (number_of c.args.layer.now.types.now c.args.note.kind) (number_of c.args.layer.now.types.now c.args.note.kind) (f.Switch c.args.note.at c.in_ok-of.of c.in_ok-arms.arms) (F.Switch c.args.note.at (tree_of c.args.layer.now.types.now c.args.frames.now c.args.a.now) (case_trees (definitions c.args.layer.now.types.now) (number c.args.layer.now.types.now) c.args.frames.now (cases (map (case (noted c.args.layer.now.types.now.forms)) c.args.list.now)))) refl
    (f.rolls-Switch c.args.note.at (tree_of c.args.layer.now.types.now c.args.frames.now c.args.a.now) (case_trees (definitions c.args.layer.now.types.now) (number c.args.layer.now.types.now) c.args.frames.now (cases (map (case (noted c.args.layer.now.types.now.forms)) c.args.list.now)))
    ∙ (ap (λ (z : TypedExpression). f.Switch c.args.note.at z (case_trees (definitions c.args.layer.now.types.now) (number c.args.layer.now.types.now) c.args.frames.now (cases (map (case (noted c.args.layer.now.types.now.forms)) c.args.list.now)))) (sym c.in_ok-of.ensures.made)
    ∙ ap (λ (z : List Case). f.Switch c.args.note.at c.in_ok-of.of z) (sym (c.in_ok-arms.ensures.made ∙ (ap (λ (f : Frame). map (case_of c.args.layer.now.types.now f) c.args.list.now) c.in_ok-of.ensures.same ∙ cases_are c.args.layer.now.types.now c.args.frames.now c.args.list.now))))) c.at.ensures
