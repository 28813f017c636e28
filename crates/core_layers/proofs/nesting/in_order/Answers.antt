use Rattle.std.proofs.Common.{ap, map, sym, ◌∙◌}
use Rattle.core_ir.specs.Expressions.{Exp}
use Rattle.core_ir.specs.View.{binding, block}
use Rattle.core_layers.specs.Layers.{held}
use Rattle.core_layers.proofs.Holding.{block_more, held_more}
use Rattle.core_layers.proofs.nesting.in_order.Goals as goal

pub loop-binding-preserved : goal.loop-binding-preserved
loop-binding-preserved c = λ e.
    let rest = c.pop.new.self.items in
    let made = c.loop-binding.made in
    ap (λ m. block (map binding m) (held rest e)) c.in_ok-push.ensures.ok ∙ block_more made c.in-Some.binding (held rest e)
    ∙ ap (λ (x : Exp). block (map binding made) x) (sym (held_more rest c.in-Some.binding e)) ∙ ap (λ xs. block (map binding made) (held xs e)) (sym c.in-Some.ensures.items) ∙ c.loop-binding.invariant e
