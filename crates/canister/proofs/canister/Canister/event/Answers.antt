use Rattle.std.proofs.Common.{sym, subst}
use Rattle.canister.specs.Shown.{IsCanisterOf}
use Rattle.canister.specs.Views.{View}
use Rattle.canister.proofs.Showing.{canister_back}
use Rattle.canister.proofs.canister.Canister.event.Goals as goal

pub returns-in-Err-clause-sound : goal.returns-in-Err-clause-sound
returns-in-Err-clause-sound c =
    let i = c.self.inside.state in
    let old : View = record { limits = i.memories.limits; own = i.own; events = c.self.inside.events; state = i } in
    let P : View → Type 0 = λ v. IsCanisterOf c.args.modules.now v in
    canister_back c.args.modules.now old c.step.new.state c.restore.new.self c.restore.new.self.limits c.step.new.state.own (subst P (sym c.self.view_is) c.requires.sound) c.in-Err.ensures.err c.restore.ensures.kept c.restore.ensures.settled
