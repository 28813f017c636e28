use Rattle.std.proofs.Common.{refl}
use Rattle.arena_upgrades.proofs.staying.stay.Goals as goal

pub returns : goal.returns
returns c = record {
  over = record { items = c.args.items; actor = c.with_table-actor.result };
  is = refl;
  left = record { copy = c.in_ok-copy.copy; copied = c.in_ok-copy.ensures; items = refl; actor = c.with_table-actor.ensures };
}
