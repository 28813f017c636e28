use Rattle.std.proofs.Common.{◌≡◌, ◌∙◌, ap, subst, IfOk}
use Rattle.core_ir.specs.declared.code.Operand.TheVariants.{Constant}
use Rattle.closure_conv.proofs.UseSets.{listed, not_listed}
use Rattle.closure_conv.proofs.operands.listed_at.Goals as goal

pub returns-in-Some : goal.returns-in-Some
returns-in-Some c =
    let l = c.in-Some.ensures.lookup in
    subst (λ x. IfOk c.copy.result (λ operand. operand ≡ x)) (listed c.args.operands.now c.args.place c.in-Some.operand.now (l.3).0 (l.1)) c.copy.ensures

pub returns-in_ok-new-in-None : goal.returns-in_ok-new-in-None
returns-in_ok-new-in-None c = let l = c.in-None.ensures.lookup in ap Constant c.in_ok-new-in-None.ensures ∙ not_listed c.args.operands.now c.args.place (l.3)
