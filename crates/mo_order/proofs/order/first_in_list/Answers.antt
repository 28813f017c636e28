use Rattle.mo_order.proofs.Looking.{ahead_none}
use Rattle.mo_order.proofs.order.first_in_list.Goals as goal

pub loop-index-init : goal.loop-index-init
loop-index-init c = rw c.new-late.ensures (ahead_none c.args.steps.now)
