use Rattle.std.proofs.lemmas.Result.{IfOk-weaker}
use Rattle.arena_upgrades.proofs.restarting.start_over.Goals as goal

pub returns : goal.returns
returns c = IfOk-weaker c.restarted.result _ _ (λ u h. record { started = c.in_ok-started.started; restart = c.in_ok-started.ensures; comes = h }) c.restarted.ensures
