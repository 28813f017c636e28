use Rattle.std.proofs.Common.{length, refl}
use Rattle.met_types.specs.States.{State}
use Rattle.abstract_tree.specs.TreeView.{plain}
use Rattle.judging.specs.declared.checker.Checker.{Checker}
use Rattle.judging.specs.Views.{typed_in, kind_reached}
use Rattle.judging.proofs.Chains.{no_memory}
use Rattle.judging.proofs.Steps.{sound_on, ready_on, judged_of, none_below}
use Rattle.judging.proofs.layer.Layer.fits.Goals as goal

abbrev met : Checker → State → Checker
met k t = record k { types = t }

pub intern-requires-clause-below : goal.intern-requires-clause-below
intern-requires-clause-below g c = none_below (length c.args.checker.now.types.forms) c.args.wanted c.requires.plain

pub part-requires-clause-ready : goal.part-requires-clause-ready
part-requires-clause-ready g c =
    ready_on c.args.checker.now (met c.args.checker.now c.intern.new.self) c.args.scopes.now c.args.scopes.now c.args.self.now.site c.requires.ready
    (sound_on c.args.checker.now c.args.scopes.now c.intern.new.self c.requires.ready.sound c.in_ok-wanted.ensures.kept c.in_ok-wanted.ensures.goes) c.in_ok-wanted.ensures.goes

pub returns-in_err-wanted-clause-answer : goal.returns-in_err-wanted-clause-answer
returns-in_err-wanted-clause-answer g c = no_memory typed_in kind_reached _ c.args.scopes.now c.args.scopes.now c.args.checker.now _ c.from_residual.result c.from_residual.ensures

pub returns-clause-answer : goal.returns-clause-answer
returns-clause-answer g c =
    judged_of c.args.wanted c.in_ok-wanted.wanted c.args.self.now.site.place (plain c.args.expression.now) c.args.scopes.now c.args.scopes.now c.part.new.scopes c.args.checker.now
    (met c.args.checker.now c.intern.new.self) c.part.new.checker c.part.result c.in_ok-wanted.ensures.goes c.in_ok-wanted.ensures.stands refl c.in_ok-wanted.ensures.made.is c.part.ensures.answer
