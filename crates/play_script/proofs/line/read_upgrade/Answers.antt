use Rattle.std.proofs.Common.{refl, arith}
use Rattle.play_script.specs.declared.event.Event.TheVariants.{Upgrade}
use Rattle.play_script.proofs.line.read_upgrade.Goals as goal

pub returns-in-Some : goal.returns-in-Some
returns-in-Some c = (Upgrade c.in-Some.number, record { named = refl; said = c.in-Some.ensures.found }, record { fit = tt; above = λ h. omega arith; once = λ h. absurd h })

pub returns-in-Some-2 : goal.returns-in-Some-2
returns-in-Some-2 c = (Upgrade c.in-Some.number, record { named = refl; said = c.in-Some.ensures.found }, record { fit = tt; below = omega arith; other = tt; first = c.if-not-begun.true })
