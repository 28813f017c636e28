use Rattle.std.proofs.Common.{◌∙◌, ℕ, ap}
use Rattle.mo_types.specs.declared.node.TypeId.{TypeId}
use Rattle.typed_tree.specs.declared.expression.Form.TheOpen as form
use Rattle.desugaring.specs.Nodes as nodes
use Rattle.kernel_nodes.proofs.Rolling.{if_same}
use Rattle.kernel_objects.specs.Objects.{name_number_of, operand_in}
use Rattle.kernel_objects.proofs.operands.operand.Goals as goal

pub returns : goal.returns
returns c =
    if_same c.name_at.result (nodes.node_of c.in_ok-of_type.of_type (form.Name c.find-found.result.index)) (operand_in c.args.types.now c.args.frames.now c.args.kind c.args.name.now)
    (ap (λ (u : TypeId). nodes.node_of u (form.Name c.find-found.result.index)) c.in_ok-of_type.ensures ∙ ap (λ (n : ℕ). nodes.node_of (name_number_of c.args.types.now c.args.kind c.args.name.now) (form.Name n)) c.find-found.ensures.index) c.name_at.ensures
