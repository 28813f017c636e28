use Rattle.std.proofs.Common.{sym}
use Rattle.std.proofs.lemmas.Result.{IfOk-weaker}
use Rattle.stepper.proofs.Installs.{unknown_next}
use Rattle.stepper.proofs.Named.{owned_at}
use Rattle.stepper.proofs.absent.install_at.Goals as goal

pub install-requires : goal.install-requires
install-requires c = record { labels = owned_at c.args.programs.now c.args.number c.in-Some.program.now c.requires (sym c.in-Some.ensures) }

pub returns-in-Some : goal.returns-in-Some
returns-in-Some c = IfOk-weaker c.install.result _ _ (λ next h. h c.args.programs.now c.args.number (sym c.in-Some.ensures)) c.install.ensures

pub returns-in-None : goal.returns-in-None
returns-in-None c = unknown_next c.args.programs.now c.args.own.now c.args.number c.args.turns c.args.came (sym c.in-None.ensures)
