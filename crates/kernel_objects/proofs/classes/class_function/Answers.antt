use Rattle.kernel_nodes.proofs.Rolling.{if_same}
use Rattle.kernel_functions.specs.Functions.{made_of}
use Rattle.kernel_objects.specs.Objects.{class_in}
use Rattle.kernel_objects.proofs.Made.{class_is}
use Rattle.kernel_objects.proofs.classes.class_function.Goals as goal

pub returns-clause-made : goal.returns-clause-made
returns-clause-made g c =
    if_same c.made_function.result (made_of c.args.lists.now.layer.types.now c.args.of.now c.in_ok-nodes.nodes c.in_ok-made.made) (class_in c.args.lists.now.layer.types.now c.args.frames.now c.args.note.kind c.args.of.now c.args.fields.now)
    (class_is c.args.lists.now.layer.types.now c.args.frames.now c.args.note.kind c.args.of.now c.args.fields.now c.in_ok-nodes.nodes c.in_ok-made.made (c.in_ok-nodes.ensures c.args.lists.now.layer.types.now) c.in_ok-made.ensures.made) c.made_function.ensures
