use Rattle.std.proofs.Common.{ap, sym, ◌∙◌}
use Rattle.core_ir.specs.Expressions.{AnExp, Bind, Do, NoExp}
use Rattle.core_ir.specs.View.{expression}
use Rattle.core_layers.specs.Layers.{layered}
use Rattle.core_layers.proofs.Holding.{let_behind}
use Rattle.core_members.proofs.Listing.{bind_more}
use Rattle.core_members.proofs.operands.bound.Goals as goal

pub loop-operand-preserved : goal.loop-operand-preserved
loop-operand-preserved c = λ fails e.
    let x = c.in-Some.operand in
    ap (λ ls. layered ls fails e) c.in_ok-push.ensures.items ∙ let_behind c.loop-operand.made.items x fails e ∙ c.loop-operand.invariant fails (Do (Bind e) (AnExp (expression x) NoExp))
    ∙ sym (bind_more c.loop-operand.yielded x e)
