use Rattle.std.proofs.Common.{subst}
use Rattle.source_explanation.specs.Explained.{Explains}
use Rattle.mo_explain.specs.Ends.{IsSaid}
use Rattle.mo_explain.proofs.Endings.{put_accepted}
use Rattle.mo_explain.proofs.explaining.explain_text.Goals as goal

pub returns-in-Ok-Accepted : goal.returns-in-Ok-Accepted
returns-in-Ok-Accepted g c =
    put_accepted (IsSaid c.args.source.now) c.in-Ok-Accepted.text c.as_slice-in-Ok-Accepted.result.now (g.O.Sink.shown c.args.out.now) (g.O.Sink.shown c.put-in-Ok-Accepted.new.out) (g.O.Sink.faults c.args.out.now)
    (g.O.Sink.faults c.put-in-Ok-Accepted.new.out) c.put-in-Ok-Accepted.result (subst (Explains c.args.source.now) c.in-Ok-Accepted.field-0-is c.in-Ok-Accepted.ensures) c.as_slice-in-Ok-Accepted.ensures c.put-in-Ok-Accepted.ensures
