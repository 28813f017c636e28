use Rattle.std.proofs.lemmas.Result.{IfOk-weaker}
use Rattle.arena_upgrades.proofs.Saves.{upgrade_so}
use Rattle.arena_upgrades.proofs.saving.save_first.Goals as goal

pub save-requires-clause-sound : goal.save-requires-clause-sound
save-requires-clause-sound c = c.in_ok-copy.ensures.sound

pub returns : goal.returns
returns c =
    IfOk-weaker c.behind_saving.result _ _
    (λ u h. upgrade_so c.args.old.now c.args.new.now c.args.own.now c.args.turns c.args.actor.now c.in_ok-copy.copy c.requires.closed c.in_ok-copy.ensures c.in_ok-saved.saved u c.in_ok-saved.ensures h)
    c.behind_saving.ensures
