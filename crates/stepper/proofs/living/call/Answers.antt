use Rattle.stepper.proofs.Lives.{called_next}
use Rattle.stepper.proofs.living.call.Goals as goal

pub returns : goal.returns
returns c =
    called_next c.args.own.now c.args.call.query c.args.call.name.now c.args.call.caller.now c.args.call.argument.now c.args.turns c.args.running.now c.in_ok-lived.lived c.next_of.result c.requires c.in_ok-lived.ensures
    c.next_of.ensures
