use Rattle.type_definitions.specs.Meanings.{term}
use Rattle.value_scopes.specs.Values.{noted}
use Rattle.desugaring.specs.Expressions.{assigned}
use Rattle.kernel_types.specs.Numbers.{definitions, number}
use Rattle.kernel_shapes.specs.Kinds.{Element}
use Rattle.kernel_parts.specs.Views.{expression_in, tree_of}
use Rattle.kernel_choices.specs.Cells.{element_written_of, written_of}
use Rattle.kernel_choices.proofs.Assigned.{assigned_is, assigned_member, assigned_name, assigned_other}
use Rattle.kernel_nodes.proofs.Rolling.{if_same}
use Rattle.kernel_choices.proofs.places.assign.Goals as goal

pub returns-in-Element-clause-made : goal.returns-in-Element-clause-made
returns-in-Element-clause-made g c =
    if_same c.write_element.result (element_written_of c.args.layer.now.types.now c.args.frames.now c.args.note.kind c.in-Element.of.now c.in-Element.i.now c.args.a.now) (assigned (definitions c.args.layer.now.types.now) (number c.args.layer.now.types.now) c.args.frames.now (term c.args.layer.now.types.now.forms c.args.note.kind) (expression_in c.args.layer.now.types.now c.args.to.now) (tree_of c.args.layer.now.types.now c.args.frames.now c.args.a.now))
    (assigned_is c.args.layer.now.types.now c.args.frames.now c.args.to.now c.get.result.now c.get.ensures (term c.args.layer.now.types.now.forms c.args.note.kind) (tree_of c.args.layer.now.types.now c.args.frames.now c.args.a.now) (Element (expression_in c.args.layer.now.types.now c.in-Element.of.now) (expression_in c.args.layer.now.types.now c.in-Element.i.now)) (c.in-Element.ensures (noted c.args.layer.now.types.now.forms))) c.write_element.ensures.made

pub returns-in-Name-clause-made : goal.returns-in-Name-clause-made
returns-in-Name-clause-made g c =
    if_same c.write_cell.result (written_of c.args.layer.now.types.now c.args.frames.now c.args.note.kind c.args.to.now c.args.a.now) (assigned (definitions c.args.layer.now.types.now) (number c.args.layer.now.types.now) c.args.frames.now (term c.args.layer.now.types.now.forms c.args.note.kind) (expression_in c.args.layer.now.types.now c.args.to.now) (tree_of c.args.layer.now.types.now c.args.frames.now c.args.a.now))
    (assigned_name c.args.layer.now.types.now c.args.frames.now c.args.to.now c.get.result.now c.get.ensures (term c.args.layer.now.types.now.forms c.args.note.kind) (tree_of c.args.layer.now.types.now c.args.frames.now c.args.a.now) c.in-Name.field-0.now (c.in-Name.ensures (noted c.args.layer.now.types.now.forms))) c.write_cell.ensures.made

pub returns-in-Member-clause-made : goal.returns-in-Member-clause-made
returns-in-Member-clause-made g c =
    if_same c.write_cell-in-Member.result (written_of c.args.layer.now.types.now c.args.frames.now c.args.note.kind c.args.to.now c.args.a.now) (assigned (definitions c.args.layer.now.types.now) (number c.args.layer.now.types.now) c.args.frames.now (term c.args.layer.now.types.now.forms c.args.note.kind) (expression_in c.args.layer.now.types.now c.args.to.now) (tree_of c.args.layer.now.types.now c.args.frames.now c.args.a.now))
    (assigned_member c.args.layer.now.types.now c.args.frames.now c.args.to.now c.get.result.now c.get.ensures (term c.args.layer.now.types.now.forms c.args.note.kind) (tree_of c.args.layer.now.types.now c.args.frames.now c.args.a.now) (expression_in c.args.layer.now.types.now c.in-Member.field-0.now) c.in-Member.field-1.now (c.in-Member.ensures (noted c.args.layer.now.types.now.forms))) c.write_cell-in-Member.ensures.made

pub returns-in-Other-clause-made : goal.returns-in-Other-clause-made
returns-in-Other-clause-made g c =
    if_same c.write_cell-in-Other.result (written_of c.args.layer.now.types.now c.args.frames.now c.args.note.kind c.args.to.now c.args.a.now) (assigned (definitions c.args.layer.now.types.now) (number c.args.layer.now.types.now) c.args.frames.now (term c.args.layer.now.types.now.forms c.args.note.kind) (expression_in c.args.layer.now.types.now c.args.to.now) (tree_of c.args.layer.now.types.now c.args.frames.now c.args.a.now))
    (assigned_other c.args.layer.now.types.now c.args.frames.now c.args.to.now c.get.result.now c.get.ensures (term c.args.layer.now.types.now.forms c.args.note.kind) (tree_of c.args.layer.now.types.now c.args.frames.now c.args.a.now) (c.in-Other.ensures (noted c.args.layer.now.types.now.forms))) c.write_cell-in-Other.ensures.made
