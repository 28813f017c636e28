use Rattle.mo_play.proofs.Bytes.{judged_module, judged_fault, unread_judged}
use Rattle.mo_play.proofs.judging.judge.Goals as goal

pub returns-in-Ok-clause-ok : goal.returns-in-Ok-clause-ok
returns-in-Ok-clause-ok c = judged_module c.args.bytes.now c.in-Ok.tree c.valid.result c.in-Ok.ensures.found c.in-Ok.ensures.exact c.valid.ensures

pub returns-in-Ok-clause-bad : goal.returns-in-Ok-clause-bad
returns-in-Ok-clause-bad c = judged_fault c.args.bytes.now c.in-Ok.tree c.valid.result c.in-Ok.ensures.found c.in-Ok.ensures.exact c.in-Ok.ensures.only c.valid.ensures

pub returns-in-Err-clause-bad : goal.returns-in-Err-clause-bad
returns-in-Err-clause-bad c = rw c.unread.ensures (unread_judged c.args.bytes.now c.in-Err.fault c.in-Err.ensures.exact c.in-Err.ensures.only)
