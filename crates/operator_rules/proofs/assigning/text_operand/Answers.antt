use Rattle.abstract_tree.specs.TreeView.{plain}
use Rattle.judging.proofs.Steps.{ready_on, reached_within}
use Rattle.operator_rules.proofs.RightSides.{no_side, text_side_given}
use Rattle.operator_rules.proofs.assigning.text_operand.Goals as goal

pub returns-in_err-text-clause-answer : goal.returns-in_err-text-clause-answer
returns-in_err-text-clause-answer g c =
    no_side c.args.layer.now.site c.args.kind (plain c.args.a.now) c.args.scopes.now c.args.checker.now c.needs_text.new.checker c.in_err-text.field-0.0 c.from_residual.result c.from_residual.ensures (c.in_err-text.ensures c.args.scopes.now c.requires.ready.sound)

pub part-requires-clause-ready : goal.part-requires-clause-ready
part-requires-clause-ready g c =
    let h = c.in_ok-text.ensures c.args.scopes.now c.requires.ready.sound in
    ready_on c.args.checker.now c.needs_text.new.checker c.args.scopes.now c.args.scopes.now c.args.layer.now.site c.requires.ready h.outcome.sound h.outcome.goes

pub part-requires-clause-wanted : goal.part-requires-clause-wanted
part-requires-clause-wanted g c =
    let h = c.in_ok-text.ensures c.args.scopes.now c.requires.ready.sound in
    reached_within c.needs_text.new.checker.types c.in_ok-text.text h.outcome.sound.known.kept h.outcome.holds

pub returns-clause-answer : goal.returns-clause-answer
returns-clause-answer g c =
    text_side_given c.args.layer.now.site c.args.kind (plain c.args.a.now) c.args.scopes.now c.args.checker.now c.part.new.scopes c.needs_text.new.checker c.part.new.checker c.in_ok-text.text c.part.result (c.in_ok-text.ensures c.args.scopes.now c.requires.ready.sound) c.part.ensures.answer
