use Rattle.arena_upgrades.proofs.Overs.{base_so}
use Rattle.arena_upgrades.proofs.restarting.copied_base.Goals as goal

pub returns : goal.returns
returns c = base_so c.args.actor.now c.in_ok-copy.copy c.in_ok-next.next c.base_of.result c.in_ok-copy.ensures c.in_ok-next.ensures c.base_of.ensures
