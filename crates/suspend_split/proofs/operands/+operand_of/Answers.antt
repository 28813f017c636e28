use Rattle.std.proofs.Common.{◌∙◌, ap, sym, arith}
use Rattle.core_ir.specs.ScopeNames.{scope_names}
use Rattle.core_ir.specs.View.{expression}
use Rattle.core_laws.specs.Slots.{operand}
use Rattle.suspend_split.proofs.ExpressionViews.{block_operand}
use Rattle.suspend_split.proofs.operands.+operand_of.Goals as goal

pub returns-then-len-gt0 : goal.returns-then-len-gt0
returns-then-len-gt0 t c =
    sym (ap (λ e. operand (scope_names c.args.scopes.now c.args.outermost.now c.args.scope) (expression e) c.args.free) c.in-Block.is ∙ block_operand c.in-Block.bindings c.in-Block.value (scope_names c.args.scopes.now c.args.outermost.now c.args.scope) c.args.free (let l = c.len.ensures in let m = c.if-len-gt0.true in omega (arith, l, m)))
