use Rattle.std.proofs.Common.{◌∙◌, sym}
use Rattle.abstract_tree.specs.TreeView.{plain}
use Rattle.judging.proofs.Loops.{given_within, loop_as_it_is, ready_back, ready_within, refused_within}
use Rattle.judging.proofs.layer.Layer.loop_body.Goals as goal

pub fits_unit-requires-clause-ready : goal.fits_unit-requires-clause-ready
fits_unit-requires-clause-ready g c = ready_within c.args.self.now.site (plain c.args.body.now) c.args.scopes.now c.args.checker.now c.set_loop-was.new.self c.set_loop-was.ensures.set c.requires.ready

pub returns-in_err-made-clause-answer : goal.returns-in_err-made-clause-answer
returns-in_err-made-clause-answer g c =
    refused_within c.args.self.now.site (plain c.args.body.now) c.args.scopes.now c.args.checker.now c.set_loop-was.new.self c.set_loop-was.ensures.set c.fits_unit.new.scopes c.fits_unit.new.checker c.in_err-made.field-0.0
    c.from_residual.result (sym c.is_labelled.ensures ∙ c.if-is_labelled.true) c.from_residual.ensures c.in_err-made.ensures.answer

pub returns-in_ok-made-clause-answer : goal.returns-in_ok-made-clause-answer
returns-in_ok-made-clause-answer g c =
    given_within c.args.self.now.site (plain c.args.body.now) c.args.scopes.now c.args.checker.now c.set_loop-was.new.self c.set_loop-was.ensures.set c.fits_unit.new.scopes c.fits_unit.new.checker c.set_loop-was.result
    c.set_loop.new.self c.in_ok-made.made (sym c.is_labelled.ensures ∙ c.if-is_labelled.true) c.set_loop-was.ensures.was c.set_loop.ensures.set c.in_ok-made.ensures.answer

pub returns-in_ok-made-clause-ready : goal.returns-in_ok-made-clause-ready
returns-in_ok-made-clause-ready g c =
    ready_back c.args.self.now.site (plain c.args.body.now) c.args.scopes.now c.args.checker.now c.set_loop-was.new.self c.set_loop-was.ensures.set c.fits_unit.new.scopes c.fits_unit.new.checker c.set_loop-was.result
    c.set_loop.new.self c.set_loop.ensures.set c.in_ok-made.ensures.ready

pub returns-else-is_labelled-clause-answer : goal.returns-else-is_labelled-clause-answer
returns-else-is_labelled-clause-answer g c =
    loop_as_it_is c.args.self.now.site (plain c.args.body.now) c.args.scopes.now c.fits_unit-else-is_labelled.new.scopes c.args.checker.now c.fits_unit-else-is_labelled.new.checker c.fits_unit-else-is_labelled.result
    (sym c.is_labelled.ensures ∙ c.if-is_labelled.false) c.fits_unit-else-is_labelled.ensures.answer
