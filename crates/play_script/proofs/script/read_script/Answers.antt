use Rattle.std.proofs.Common.{take, sym, subst}
use Rattle.play_script.specs.declared.script.ScriptFault.{ScriptFault}
use Rattle.play_script.specs.Words.{lines_of}
use Rattle.play_script.specs.Faults.{FaultOf}
use Rattle.play_script.proofs.ScriptLines.{read_more, read_fault, read_all, read_nothing, none_by, some_by}
use Rattle.play_script.specs.declared.script.ScriptFault.TheVariants.{NotInstalled}
use Rattle.play_script.proofs.NoScript.{no_script}
use Rattle.play_script.proofs.script.read_script.Goals as goal

pub loop-rest-preserved : goal.loop-rest-preserved
loop-rest-preserved c =
    read_more c.args.modules c.args.text.now c.loop-rest.rest.now c.split_line.result.0.now c.split_line.result.1.now c.loop-rest.number c.loop-rest.events c.read_line.new.events c.loop-rest.invariant
    c.split_line.ensures.lines c.split_line.ensures.less (c.in-Ok.ensures (take c.loop-rest.number (lines_of c.args.text.now)) c.loop-rest.invariant.good)

pub returns-in-Err-clause-err : goal.returns-in-Err-clause-err
returns-in-Err-clause-err c =
    subst (λ (f : ScriptFault). FaultOf c.args.text.now c.args.modules f) (sym c.fault_of.ensures)
    (read_fault c.args.modules c.args.text.now c.loop-rest.rest.now c.split_line.result.0.now c.split_line.result.1.now c.loop-rest.number c.loop-rest.events c.read_line.new.events c.in-Err.fault c.loop-rest.invariant
    c.split_line.ensures.lines (c.in-Err.ensures (take c.loop-rest.number (lines_of c.args.text.now)) c.loop-rest.invariant.good))

pub returns-then-is_empty-clause-err : goal.returns-then-is_empty-clause-err
returns-then-is_empty-clause-err c =
    read_nothing c.args.modules c.args.text.now c.loop-rest.rest.now c.loop-rest.number c.loop-rest.events c.loop-rest.invariant
    (none_by c.loop-rest.rest.now c.is_empty.result c.is_empty.ensures c.loop-rest-test.false) (none_by c.loop-rest.events c.is_empty-2.result c.is_empty-2.ensures c.if-is_empty.true)

pub returns-clause-ok : goal.returns-clause-ok
returns-clause-ok c =
    read_all c.args.modules c.args.text.now c.loop-rest.rest.now c.loop-rest.number c.loop-rest.events c.loop-rest.invariant
    (none_by c.loop-rest.rest.now c.is_empty.result c.is_empty.ensures c.loop-rest-test.false) (some_by c.loop-rest.events c.is_empty-2.result c.is_empty-2.ensures c.if-is_empty.false)

pub returns-in-Err-clause-only : goal.returns-in-Err-clause-only
returns-in-Err-clause-only c = λ events s. no_script c.args.modules c.args.text.now events s c.fault_of.result (returns-in-Err-clause-err c)

pub returns-then-is_empty-clause-only : goal.returns-then-is_empty-clause-only
returns-then-is_empty-clause-only c = λ events s. no_script c.args.modules c.args.text.now events s (NotInstalled 0) (returns-then-is_empty-clause-err c)
