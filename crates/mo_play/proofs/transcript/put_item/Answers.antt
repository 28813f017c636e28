use Rattle.mo_play.proofs.Runs.{no_line}
use Rattle.mo_play.proofs.transcript.put_item.Goals as goal

pub returns-in-Err-clause-put : goal.returns-in-Err-clause-put
returns-in-Err-clause-put g c = no_line c.args.item.now (g.O.Sink.shown c.args.out.now)
