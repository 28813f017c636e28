use Rattle.std.proofs.Common.{◌≡◌, not, true, false, sym, ◌∙◌}
use Rattle.play_script.proofs.ScriptLines.{skip_more, line_more, line_fault, begins_by}
use Rattle.play_script.proofs.script.read_line.Goals as goal

pub returns-then-is_skipped : goal.returns-then-is_skipped
returns-then-is_skipped c = λ lines good. skip_more c.args.modules lines c.args.line.now c.args.events.now good (c.is_skipped.ensures.0 c.if-is_skipped.true)

pub returns-in_ok-push-in-Ok : goal.returns-in_ok-push-in-Ok
returns-in_ok-push-in-Ok c = λ lines good.
    line_more c.args.modules lines c.args.line.now c.args.events.now c.push.new.self c.in-Ok.event (not c.is_empty-begun.result) good (begins_by c.args.events.now c.is_empty-begun.result c.is_empty-begun.ensures)
    c.in-Ok.ensures c.in_ok-push-in-Ok.ensures.ok

pub returns-in-Err : goal.returns-in-Err
returns-in-Err c = λ lines good.
    line_fault c.args.modules lines c.args.line.now c.args.events.now c.args.events.now (not c.is_empty-begun.result) c.in-Err.fault (begins_by c.args.events.now c.is_empty-begun.result c.is_empty-begun.ensures)
    (λ s. (let other : true ≡ false = sym (c.is_skipped.ensures.1 s) ∙ c.if-is_skipped.false in cc)) c.in-Err.ensures
