use Rattle.std.proofs.Common.{sym}
use Rattle.stepper.proofs.Named.{owned_at}
use Rattle.stepper.proofs.Upgrades.{unknown_upgrade, upgraded_next}
use Rattle.stepper.proofs.upgrading.upgrade_to.Goals as goal

pub returns-in_default : goal.returns-in_default
returns-in_default c = unknown_upgrade c.args.programs.now c.args.own.now c.args.number c.args.turns c.args.running.now (sym c.in_default.ensures)

pub returns : goal.returns
returns c =
    let found = sym c.in-Some.ensures in
    upgraded_next c.args.programs.now c.args.own.now c.args.number c.args.turns c.args.running.now c.in-Some.program.now found c.requires.actor
    (owned_at c.args.programs.now c.args.number c.in-Some.program.now c.requires.programs found) c.in_ok-upgraded.upgraded c.next_of.result c.in_ok-upgraded.ensures c.next_of.ensures

pub upgrade-requires-clause-new : goal.upgrade-requires-clause-new
upgrade-requires-clause-new c = owned_at c.args.programs.now c.args.number c.in-Some.program.now c.requires.programs (sym c.in-Some.ensures)
