use Rattle.std.proofs.Common.{◌≡◌}
use Rattle.arena_actors.specs.declared.actor.Activation.TheVariants as activation
use Rattle.stepper.specs.Standing.{repeat}
use Rattle.stepper.proofs.installing.answered.Given as goal

abbrev pub invariant-loop : goal.invariant-loop
invariant-loop l = l.came ≡ repeat l.counter activation.Answered
