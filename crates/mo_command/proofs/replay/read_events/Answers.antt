use Rattle.mo_command.proofs.Texts.{playable_all}
use Rattle.mo_command.proofs.replay.read_events.Goals as goal

pub returns-in-Ok-Whole-clause-playable : goal.returns-in-Ok-Whole-clause-playable
returns-in-Ok-Whole-clause-playable g c = playable_all c.args.input c.args.count c.as_slice.result.now c.events_of.result c.events_of.ensures.ok
