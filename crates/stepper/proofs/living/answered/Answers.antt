use Rattle.stepper.proofs.Lives.{answered_next}
use Rattle.stepper.proofs.living.answered.Goals as goal

pub returns : goal.returns
returns c =
    answered_next c.args.own.now c.args.number c.args.received c.args.turns c.args.running.now c.in_ok-lived.lived c.next_of.result c.requires c.in_ok-lived.ensures c.next_of.ensures
