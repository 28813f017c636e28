use Rattle.std.proofs.Common.{refl}
use Rattle.arena_upgrades.proofs.outstanding.stays.Goals as goal

pub returns : goal.returns
returns c = (record { items = c.args.items; actor = c.in_ok-actor.actor }, refl, refl, c.in_ok-actor.ensures)
