use Rattle.std.proofs.Common.{ap, subst}
use Rattle.std.proofs.lemmas.Result.{on_ok_weaker}
use Rattle.mo_types.specs.declared.node.Node.{Node}
use Rattle.mo_types.specs.declared.node.TypeId.{TypeId}
use Rattle.mo_types.specs.Graph.{node_or_bottom}
use Rattle.kept_parts.specs.Steps.{IsOpened}
use Rattle.kept_parts.proofs.unforming.unform_typed.Goals as goal

pub returns-in-Some : goal.returns-in-Some
returns-in-Some c =
    on_ok_weaker c.unform_node.result
    (λ h.
    let Of : Node TypeId → Type 0 = λ n. IsOpened n c.args.next.1 c.args.part.now c.args.state.now c.unform_node.new.state in
    subst Of (ap node_or_bottom c.in-Some.ensures) h)
    c.unform_node.ensures

pub returns-in-None : goal.returns-in-None
returns-in-None c =
    on_ok_weaker c.put_copy.result
    (λ h.
    let Of : Node TypeId → Type 0 = λ n. IsOpened n c.args.next.1 c.args.part.now c.args.state.now c.put_copy.new.state in
    subst Of (ap node_or_bottom c.in-None.ensures) h)
    c.put_copy.ensures
