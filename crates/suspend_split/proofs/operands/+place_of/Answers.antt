use Rattle.std.proofs.Common.{◌∙◌, ap, sym, arith}
use Rattle.core_ir.specs.View.{expression}
use Rattle.core_laws.specs.Slots.{place}
use Rattle.suspend_split.proofs.ExpressionViews.{block_place}
use Rattle.suspend_split.proofs.operands.+place_of.Goals as goal

pub returns-then-len-gt0 : goal.returns-then-len-gt0
returns-then-len-gt0 t c =
    sym (ap (λ e. place (expression e) c.args.free) c.in-Block.is ∙ block_place c.in-Block.bindings c.in-Block.value c.args.free (let l = c.len.ensures in let m = c.if-len-gt0.true in omega (arith, l, m)))
