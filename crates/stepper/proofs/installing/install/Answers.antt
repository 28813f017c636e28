use Rattle.std.proofs.lemmas.Result.{IfOk-weaker}
use Rattle.stepper.proofs.Installs.{installed_next}
use Rattle.stepper.proofs.installing.install.Goals as goal

pub returns : goal.returns
returns c =
    IfOk-weaker c.installed.result _ _
    (λ next h programs number found.
    installed_next programs c.args.own.now number c.args.turns c.args.came c.args.program.now found c.requires.labels c.in_ok-started.started next c.in_ok-started.ensures h)
    c.installed.ensures
