use Rattle.mo_command.proofs.Checks.{put_judged}
use Rattle.mo_command.proofs.check.show.Goals as goal

pub returns-in-Ok : goal.returns-in-Ok
returns-in-Ok g c =
    put_judged c.args.source.now c.in-Ok.lines.items c.as_slice.result.now (g.O.Sink.shown c.args.out.now) (g.O.Sink.shown c.put_lines.new.out) (g.O.Sink.faults c.args.out.now) (g.O.Sink.faults c.put_lines.new.out)
    c.put_lines.result c.end_of.result c.in-Ok.ensures c.as_slice.ensures.value c.put_lines.ensures.put c.put_lines.ensures.cause c.end_of.ensures
