use Rattle.std.proofs.Common.{refl}
use Rattle.arena_saving.proofs.Cells.{held_none, held_one}
use Rattle.arena_saving.proofs.held.put_held.Goals as goal

pub returns-in_ok-push-in-Some : goal.returns-in_ok-push-in-Some
returns-in_ok-push-in-Some c =
    held_one c.args.arena.now c.args.store.now c.args.cell c.in-Some.value c.args.found.now.items c.push.new.self.items c.in-Some.ensures.means c.in-Some.ensures.within c.in_ok-push-in-Some.ensures.items

pub returns-in-None : goal.returns-in-None
returns-in-None c = held_none c.args.arena.now c.args.store.now c.args.cell c.args.found.now.items c.args.found.now.items c.in-None.ensures.means refl
