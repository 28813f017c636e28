use Rattle.std.proofs.Common.{◌∙◌}
use Rattle.value_scopes.specs.Values.{noted}
use Rattle.desugaring.specs.Expressions.{looped}
use Rattle.kernel_types.specs.Numbers.{definitions, number}
use Rattle.kernel_shapes.specs.Kinds.{For, Loop, LoopWhile, NoLoop, While}
use Rattle.kernel_parts.specs.Views.{expression_in, tree_of}
use Rattle.kernel_scopes.specs.Bound.{pattern_in}
use Rattle.kernel_loops.specs.Loops.{for_under_of, loop_under_of, loop_while_under_of, while_under_of}
use Rattle.kernel_loops.proofs.Under.{looped_is, tree_is}
use Rattle.kernel_nodes.proofs.Rolling.{if_same}
use Rattle.kernel_loops.proofs.labels.under_label.Goals as goal

pub returns-in-While-clause-made : goal.returns-in-While-clause-made
returns-in-While-clause-made g c =
    if_same c.while_under.result (while_under_of c.args.layer.now.types.now c.args.frames.now c.args.a.now.note.kind c.args.label.now c.in-While.c.now c.in-While.body.now) (looped (definitions c.args.layer.now.types.now) (number c.args.layer.now.types.now) c.args.frames.now c.args.label.now (expression_in c.args.layer.now.types.now c.args.a.now))
    (looped_is c.args.layer.now.types.now c.args.frames.now c.args.label.now c.args.a.now c.get.result.now c.get.ensures (While (expression_in c.args.layer.now.types.now c.in-While.c.now) (expression_in c.args.layer.now.types.now c.in-While.body.now)) (c.in-While.ensures (noted c.args.layer.now.types.now.forms))) c.while_under.ensures.made

pub returns-in-Loop-clause-made : goal.returns-in-Loop-clause-made
returns-in-Loop-clause-made g c =
    if_same c.loop_under.result (loop_under_of c.args.layer.now.types.now c.args.frames.now c.args.a.now.note.kind c.args.label.now c.in-Loop.body.now) (looped (definitions c.args.layer.now.types.now) (number c.args.layer.now.types.now) c.args.frames.now c.args.label.now (expression_in c.args.layer.now.types.now c.args.a.now))
    (looped_is c.args.layer.now.types.now c.args.frames.now c.args.label.now c.args.a.now c.get.result.now c.get.ensures (Loop (expression_in c.args.layer.now.types.now c.in-Loop.body.now)) (c.in-Loop.ensures (noted c.args.layer.now.types.now.forms))) c.loop_under.ensures.made

pub returns-in-LoopWhile-clause-made : goal.returns-in-LoopWhile-clause-made
returns-in-LoopWhile-clause-made g c =
    if_same c.loop_while_under.result (loop_while_under_of c.args.layer.now.types.now c.args.frames.now c.args.a.now.note.kind c.args.label.now c.in-LoopWhile.body.now c.in-LoopWhile.c.now) (looped (definitions c.args.layer.now.types.now) (number c.args.layer.now.types.now) c.args.frames.now c.args.label.now (expression_in c.args.layer.now.types.now c.args.a.now))
    (looped_is c.args.layer.now.types.now c.args.frames.now c.args.label.now c.args.a.now c.get.result.now c.get.ensures (LoopWhile (expression_in c.args.layer.now.types.now c.in-LoopWhile.body.now) (expression_in c.args.layer.now.types.now c.in-LoopWhile.c.now)) (c.in-LoopWhile.ensures (noted c.args.layer.now.types.now.forms))) c.loop_while_under.ensures.made

pub returns-in-For-clause-made : goal.returns-in-For-clause-made
returns-in-For-clause-made g c =
    if_same c.for_under.result (for_under_of c.args.layer.now.types.now c.args.frames.now c.args.a.now.note.kind c.args.label.now c.in-For.q.now c.in-For.of.now c.in-For.body.now) (looped (definitions c.args.layer.now.types.now) (number c.args.layer.now.types.now) c.args.frames.now c.args.label.now (expression_in c.args.layer.now.types.now c.args.a.now))
    (looped_is c.args.layer.now.types.now c.args.frames.now c.args.label.now c.args.a.now c.get.result.now c.get.ensures (For (pattern_in c.args.layer.now.types.now c.in-For.q.now) (expression_in c.args.layer.now.types.now c.in-For.of.now) (expression_in c.args.layer.now.types.now c.in-For.body.now)) (c.in-For.ensures (noted c.args.layer.now.types.now.forms))) c.for_under.ensures.made

pub returns-in-Other-clause-made : goal.returns-in-Other-clause-made
returns-in-Other-clause-made g c =
    if_same c.part.result (tree_of c.args.layer.now.types.now c.args.frames.now c.args.a.now) (looped (definitions c.args.layer.now.types.now) (number c.args.layer.now.types.now) c.args.frames.now c.args.label.now (expression_in c.args.layer.now.types.now c.args.a.now))
    (tree_is c.args.layer.now.types.now c.args.frames.now c.args.label.now c.args.a.now c.get.result.now c.get.ensures ∙ looped_is c.args.layer.now.types.now c.args.frames.now c.args.label.now c.args.a.now c.get.result.now c.get.ensures NoLoop (c.in-Other.ensures (noted c.args.layer.now.types.now.forms))) c.part.ensures.made
