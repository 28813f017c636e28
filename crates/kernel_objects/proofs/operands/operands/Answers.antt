use Rattle.std.proofs.Common.{◌∙◌, ap}
use Rattle.typing_rules.specs.AbstractSyntax.{Bytes}
use Rattle.kernel_parts.proofs.Looping.{pushed}
use Rattle.kernel_objects.specs.Objects.{operand_in}
use Rattle.kernel_objects.proofs.operands.operands.Goals as goal

pub loop-name-preserved : goal.loop-name-preserved
loop-name-preserved c = pushed (operand_in c.args.types.now c.args.frames.now c.args.kind) c.args.names.now c.loop-name.name-index c.name-item.result c.loop-name.made c.push.new.self c.in_ok-value.value c.loop-name-test.true c.name-item.is c.loop-name.invariant
    (c.in_ok-value.ensures ∙ ap (λ (x : Bytes). operand_in c.args.types.now c.args.frames.now c.args.kind x) c.as_slice.ensures) c.in_ok-push.ensures.ok
