use Rattle.std.proofs.Common.{ap, subst}
use Rattle.std.proofs.lemmas.Result.{on_ok_weaker}
use Rattle.mo_types.specs.declared.node.Node.{Node}
use Rattle.mo_types.specs.declared.node.TypeId.{TypeId}
use Rattle.mo_types.specs.Graph.{node_or_bottom}
use Rattle.kept_parts.specs.Steps.{IsFormStep}
use Rattle.kept_parts.proofs.FormSteps.{bottom_step}
use Rattle.kept_parts.proofs.forming.form_typed.Goals as goal

pub returns-in-Some : goal.returns-in-Some
returns-in-Some c =
    on_ok_weaker c.form_node.result
    (λ h.
    let Of : Node TypeId → Type 0 = λ n. IsFormStep n c.args.next.1 c.args.part.now c.args.waiting.now.items c.form_node.new.waiting.items c.args.found.now.items c.form_node.new.found.items in
    subst Of (ap node_or_bottom c.in-Some.ensures) h)
    c.form_node.ensures

pub returns-in-None : goal.returns-in-None
returns-in-None c =
    on_ok_weaker c.put_copy.result
    (λ h.
    let Of : Node TypeId → Type 0 = λ n. IsFormStep n c.args.next.1 c.args.part.now c.args.waiting.now.items c.args.waiting.now.items c.args.found.now.items c.put_copy.new.found.items in
    subst Of (ap node_or_bottom c.in-None.ensures) (bottom_step c.args.next.1 c.args.part.now c.args.waiting.now.items c.args.found.now.items c.put_copy.new.found.items h))
    c.put_copy.ensures
