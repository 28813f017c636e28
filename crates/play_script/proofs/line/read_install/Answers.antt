use Rattle.std.proofs.Common.{refl, arith}
use Rattle.play_script.specs.declared.event.Event.TheVariants.{Install}
use Rattle.play_script.proofs.line.read_install.Goals as goal

pub returns-in-Some-2 : goal.returns-in-Some-2
returns-in-Some-2 c = (Install c.in-Some-2.number, record { named = refl; said = c.in-Some-2.ensures.found }, record { fit = tt; above = λ h. omega arith; once = λ _. c.if-begun.false })
