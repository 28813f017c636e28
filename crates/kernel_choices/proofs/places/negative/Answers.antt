use Rattle.std.proofs.Common.{Some, None}
use Rattle.type_definitions.specs.Meanings.{term}
use Rattle.value_scopes.specs.Values.{noted}
use Rattle.desugaring.specs.Expressions.{negative_of}
use Rattle.kernel_types.specs.Numbers.{definitions, number}
use Rattle.kernel_parts.specs.Views.{expression_in, tree_of}
use Rattle.kernel_choices.specs.Cells.{negated_of, signed_of}
use Rattle.kernel_choices.proofs.Assigned.{negative_is}
use Rattle.kernel_nodes.proofs.Rolling.{if_same}
use Rattle.kernel_choices.proofs.places.negative.Goals as goal

pub returns-in-Some-clause-made : goal.returns-in-Some-clause-made
returns-in-Some-clause-made g c =
    if_same c.signed_number.result (signed_of c.args.layer.now.types.now c.args.note.kind c.in-Some.of) (negative_of (definitions c.args.layer.now.types.now) (number c.args.layer.now.types.now) (term c.args.layer.now.types.now.forms c.args.note.kind) (expression_in c.args.layer.now.types.now c.args.a.now) (tree_of c.args.layer.now.types.now c.args.frames.now c.args.a.now))
    (negative_is c.args.layer.now.types.now c.args.frames.now c.args.a.now c.get.result.now c.get.ensures (term c.args.layer.now.types.now.forms c.args.note.kind) (tree_of c.args.layer.now.types.now c.args.frames.now c.args.a.now) (Some c.in-Some.of) (c.in-Some.ensures (noted c.args.layer.now.types.now.forms))) c.signed_number.ensures

pub returns-in-None-clause-made : goal.returns-in-None-clause-made
returns-in-None-clause-made g c =
    if_same c.negated.result (negated_of c.args.layer.now.types.now c.args.frames.now c.args.note.kind c.args.a.now) (negative_of (definitions c.args.layer.now.types.now) (number c.args.layer.now.types.now) (term c.args.layer.now.types.now.forms c.args.note.kind) (expression_in c.args.layer.now.types.now c.args.a.now) (tree_of c.args.layer.now.types.now c.args.frames.now c.args.a.now))
    (negative_is c.args.layer.now.types.now c.args.frames.now c.args.a.now c.get.result.now c.get.ensures (term c.args.layer.now.types.now.forms c.args.note.kind) (tree_of c.args.layer.now.types.now c.args.frames.now c.args.a.now) None (c.in-None.ensures (noted c.args.layer.now.types.now.forms))) c.negated.ensures.made
