use Rattle.std.proofs.Common.{refl}
use Rattle.mo_command.proofs.Texts.{not_yet}
use Rattle.mo_command.proofs.replay.taken.Goals as goal

pub returns-in-Some-clause-err : goal.returns-in-Some-clause-err
returns-in-Some-clause-err c = λ count s. (refl, not_yet c.args.text.now count c.args.events c.in-Some.index c.event_line.result s (rw c.as_slice.ensures at c.in-Some.ensures) c.event_line.ensures)
