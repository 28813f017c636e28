use Rattle.std.proofs.Common.{arith, refl}
use Rattle.play_script.proofs.OneReading.{untrue}
use Rattle.play_script.proofs.EventLines.{walk_skip, walk_event, walk_stop, walk_end}
use Rattle.play_script.proofs.ScriptLines.{none_by}
use Rattle.play_script.proofs.place.event_line.Goals as goal

pub returns-then-left-eq0 : goal.returns-then-left-eq0
returns-then-left-eq0 c = λ events s lt.
    walk_stop c.args.text.now c.loop-rest.rest.now c.split_line.result.0.now c.split_line.result.1.now c.loop-rest.number c.args.index c.loop-rest.left c.loop-rest.invariant c.split_line.ensures.lines
    (untrue c.if-not-is_skipped.ensures.1) c.if-left-eq0.true events s

pub loop-rest-preserved-else-left-eq0 : goal.loop-rest-preserved-else-left-eq0
loop-rest-preserved-else-left-eq0 c =
    walk_event c.args.text.now c.loop-rest.rest.now c.split_line.result.0.now c.split_line.result.1.now c.loop-rest.number c.args.index c.loop-rest.left _ c.loop-rest.invariant c.split_line.ensures.lines
    c.split_line.ensures.less (untrue c.if-not-is_skipped.ensures.1) (omega arith)

pub loop-rest-preserved : goal.loop-rest-preserved
loop-rest-preserved c =
    walk_skip c.args.text.now c.loop-rest.rest.now c.split_line.result.0.now c.split_line.result.1.now c.loop-rest.number c.args.index c.loop-rest.left c.loop-rest.invariant c.split_line.ensures.lines
    c.split_line.ensures.less (c.if-not-is_skipped.ensures.0 refl)

pub returns : goal.returns
returns c = λ events s lt.
    absurd (walk_end c.args.text.now c.loop-rest.rest.now c.loop-rest.number c.args.index c.loop-rest.left c.loop-rest.invariant (none_by c.loop-rest.rest.now c.is_empty.result c.is_empty.ensures c.loop-rest-test.false) events s lt)
