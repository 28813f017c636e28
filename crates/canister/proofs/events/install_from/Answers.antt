use Rattle.canister.proofs.Showing.{sound_after, slice_at}
use Rattle.canister.proofs.events.install_from.Goals as goal

pub returns-clause-sound : goal.returns-clause-sound
returns-clause-sound c =
    let m = c.index-modules-number.result in
    sound_after c.install.result c.args.modules.now c.args.state.now c.install.new.state m c.args.number c.requires.below (slice_at c.args.modules.now c.args.number m c.requires.below c.index-modules-number.is) c.requires.sound c.install.ensures.keeps c.install.ensures.comes c.install.ensures.settled
