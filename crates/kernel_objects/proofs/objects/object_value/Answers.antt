use Rattle.std.proofs.Common.{◌∙◌, List, map, refl, ap}
use Rattle.mo_values.specs.declared.operation.Operation.TheVariants as op
use Rattle.typed_tree.specs.declared.expression.TypedExpression.{TypedExpression}
use Rattle.typing_rules.specs.AbstractSyntax.{Bytes}
use Rattle.value_scopes.specs.Values.{noted}
use Rattle.desugaring.specs.Expressions.{public_names}
use Rattle.kernel_nodes.specs.Made.{operates_at}
use Rattle.kernel_nodes.proofs.Rolling.{block_is}
use Rattle.kernel_parts.specs.Views.{list_in}
use Rattle.kernel_objects.specs.Objects.{operand_in, operands_in}
use Rattle.kernel_objects.proofs.Made.{operands_are}
use Rattle.kernel_objects.proofs.objects.object_value.Goals as goal

pub returns : goal.returns
returns c =
    let names : List Bytes = public_names (list_in c.args.types.now c.args.fields.now) in
    block_is c.args.types.now c.args.kind c.at.result c.args.steps c.args.steps c.in_ok-object.object (operates_at c.args.types.now c.args.kind (op.MakeObject names) (operands_in c.args.types.now c.args.frames.now c.args.kind names)) refl
    (c.in_ok-object.ensures
    ∙ (ap (λ (l : List Bytes). operates_at c.args.types.now c.args.kind (op.MakeObject l) c.in_ok-values.values) (c.in_ok-names.ensures (noted c.args.types.now.forms))
    ∙ ap (λ (l : List TypedExpression). operates_at c.args.types.now c.args.kind (op.MakeObject names) l)
    (c.in_ok-values.ensures ∙ (ap (λ (l : List Bytes). map (operand_in c.args.types.now c.args.frames.now c.args.kind) l) (c.as_slice.ensures ∙ c.in_ok-names.ensures (noted c.args.types.now.forms)) ∙ operands_are c.args.types.now c.args.frames.now c.args.kind names)))) c.at.ensures
