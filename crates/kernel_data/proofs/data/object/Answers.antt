use Rattle.std.proofs.Common.{◌∙◌, ℕ, List, ap, map}
use Rattle.typed_tree.specs.declared.expression.TypedExpression.{TypedExpression}
use Rattle.mo_values.specs.declared.operation.Operation.TheVariants as op
use Rattle.kernel_nodes.specs.Made.{operates_at}
use Rattle.abstract_tree.specs.TreeView.{fields, object_field}
use Rattle.value_scopes.specs.Values.{noted}
use Rattle.desugaring.specs.Expressions.{field_trees, labels_of}
use Rattle.kernel_types.specs.Numbers.{definitions, head_of, number}
use Rattle.kernel_data.proofs.Several.{fields_are, labels_are}
use Rattle.kernel_nodes.proofs.Rolling.{if_same}
use Rattle.kernel_data.proofs.data.object.Goals as goal

pub returns-clause-made : goal.returns-clause-made
returns-clause-made g c =
    if_same c.operates.result (operates_at c.args.layer.now.types.now c.args.note.kind (op.MakeObject c.in_ok-names.names) c.in_ok-parts.parts)
    (operates_at c.args.layer.now.types.now c.args.note.kind (op.MakeObject (labels_of (fields (map (object_field (noted c.args.layer.now.types.now.forms)) c.args.list.now)))) (field_trees (definitions c.args.layer.now.types.now) (number c.args.layer.now.types.now) c.args.frames.now (head_of c.args.layer.now.types.now c.args.note.kind) (fields (map (object_field (noted c.args.layer.now.types.now.forms)) c.args.list.now))))
    (ap (λ (l : List (List ℕ)). operates_at c.args.layer.now.types.now c.args.note.kind (op.MakeObject l) c.in_ok-parts.parts) (c.in_ok-names.ensures ∙ labels_are c.args.layer.now.types.now c.args.list.now)
    ∙ ap (λ (l : List TypedExpression). operates_at c.args.layer.now.types.now c.args.note.kind (op.MakeObject (labels_of (fields (map (object_field (noted c.args.layer.now.types.now.forms)) c.args.list.now)))) l) (c.in_ok-parts.ensures.made ∙ fields_are c.args.layer.now.types.now c.args.frames.now c.args.note.kind c.args.list.now)) c.operates.ensures
