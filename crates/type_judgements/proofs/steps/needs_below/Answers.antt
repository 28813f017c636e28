use Rattle.std.proofs.Common.{Bool, subst}
use Rattle.met_types.specs.States.{IsBelowAnswer}
use Rattle.type_judgements.proofs.Turns.{is_not_below}
use Rattle.type_judgements.proofs.steps.needs_below.Goals as goal

pub returns-else-branch : goal.returns-else-branch
returns-else-branch c = is_not_below c.args.types.now c.args.condition c.args.place c.args.low c.args.high (subst (λ (b : Bool). IsBelowAnswer c.args.types.now c.args.low c.args.high b) c.if-branch.false c.in_ok-is_below.ensures)
