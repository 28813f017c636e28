use Rattle.std.proofs.Common.{sym, subst}
use Rattle.arena_upgrades.specs.declared.upgraded.Upgrade.{Upgrade}
use Rattle.stepper.specs.Upgrading.{IsNextOf}
use Rattle.stepper.proofs.upgrading.next_of.Goals as goal

pub returns-in-Stays : goal.returns-in-Stays
returns-in-Stays c =
    let Of : Upgrade → Type 0 = λ u. IsNextOf c.args.old.now c.args.new.now u c.behind.result in
    subst Of (sym c.in-Stays.is) c.behind.ensures

pub returns-in-Upgrades : goal.returns-in-Upgrades
returns-in-Upgrades c =
    let Of : Upgrade → Type 0 = λ u. IsNextOf c.args.old.now c.args.new.now u c.behind-in-Upgrades.result in
    subst Of (sym c.in-Upgrades.is) c.behind-in-Upgrades.ensures
