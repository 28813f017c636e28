use Rattle.std.proofs.Common.{arith}
use Rattle.play_script.proofs.Saying.{early}
use Rattle.play_script.proofs.line.admitted.Goals as goal

pub returns-in-Ok-2 : goal.returns-in-Ok-2
returns-in-Ok-2 c = λ modules v words none said.
    early v words modules c.args.begun c.args.read c.in-Ok.event none said c.in-Ok.is (omega (arith, c.message_len.ensures)) c.if-not-begun.true
