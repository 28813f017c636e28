use Rattle.mo_command.proofs.check.judge.Goals as goal

pub returns-in-Err : goal.returns-in-Err
returns-in-Err g c = c.refused.ensures (g.O.Sink.shown c.args.out.now) (g.O.Sink.faults c.args.out.now)
