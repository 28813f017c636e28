use Rattle.abstract_tree.specs.TreeView.{plain}
use Rattle.judging.proofs.Steps.{reached_on, ready_on}
use Rattle.operand_rules.specs.Literals.{seen_written}
use Rattle.operand_rules.proofs.Deciding.{at_other, at_own, undecided}
use Rattle.operand_rules.proofs.pairs.literal_operand.Goals as goal

pub returns-in_err-takes_own-clause-answer : goal.returns-in_err-takes_own-clause-answer
returns-in_err-takes_own-clause-answer g c =
    undecided c.args.layer.now.site (plain c.args.a.now) (seen_written c.args.written.now) c.args.other c.args.scopes.now c.args.checker.now c.takes_own.new.checker c.in_err-takes_own.field-0.0 c.from_residual.result c.from_residual.ensures
    (c.in_err-takes_own.ensures c.args.scopes.now c.requires.ready.sound)

pub part-requires-clause-ready : goal.part-requires-clause-ready
part-requires-clause-ready g c =
    let h = c.in_ok-takes_own.ensures c.args.scopes.now c.requires.ready.sound in
    ready_on c.args.checker.now c.takes_own.new.checker c.args.scopes.now c.args.scopes.now c.args.layer.now.site c.requires.ready h.outcome.sound h.outcome.goes

pub other_operand-requires-clause-ready : goal.other_operand-requires-clause-ready
other_operand-requires-clause-ready g c =
    let h = c.in_ok-takes_own.ensures c.args.scopes.now c.requires.ready.sound in
    ready_on c.args.checker.now c.takes_own.new.checker c.args.scopes.now c.args.scopes.now c.args.layer.now.site c.requires.ready h.outcome.sound h.outcome.goes

pub other_operand-requires-clause-other : goal.other_operand-requires-clause-other
other_operand-requires-clause-other g c =
    let h = c.in_ok-takes_own.ensures c.args.scopes.now c.requires.ready.sound in
    reached_on c.args.checker.now.types c.takes_own.new.checker.types c.args.other h.outcome.goes c.requires.other

pub returns-then-branch-clause-answer : goal.returns-then-branch-clause-answer
returns-then-branch-clause-answer g c =
    at_own c.args.layer.now.site (plain c.args.a.now) (seen_written c.args.written.now) c.args.other c.args.scopes.now c.args.checker.now c.part.new.scopes c.takes_own.new.checker c.part.new.checker c.in_ok-takes_own.field-0 c.part.result (c.in_ok-takes_own.ensures c.args.scopes.now c.requires.ready.sound) c.if-branch.true c.part.ensures.answer

pub returns-else-branch-clause-answer : goal.returns-else-branch-clause-answer
returns-else-branch-clause-answer g c =
    at_other c.args.layer.now.site (plain c.args.a.now) (seen_written c.args.written.now) c.args.other c.args.scopes.now c.args.checker.now c.other_operand.new.scopes c.takes_own.new.checker c.other_operand.new.checker c.in_ok-takes_own.field-0 c.other_operand.result (c.in_ok-takes_own.ensures c.args.scopes.now c.requires.ready.sound) c.if-branch.false
    c.other_operand.ensures.answer
