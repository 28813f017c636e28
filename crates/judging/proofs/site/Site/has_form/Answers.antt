use Rattle.std.proofs.Common.{refl}
use Rattle.met_types.specs.States.{State}
use Rattle.judging.specs.declared.checker.Checker.{Checker}
use Rattle.judging.specs.Views.{typed_in, kind_reached}
use Rattle.judging.proofs.Chains.{no_memory}
use Rattle.judging.proofs.Steps.{sound_on, wanting_on, has_of}
use Rattle.judging.proofs.site.Site.has_form.Goals as goal

abbrev met : Checker → State → Checker
met k t = record k { types = t }

pub has-requires-clause-wanting : goal.has-requires-clause-wanting
has-requires-clause-wanting c =
    wanting_on c.args.checker.now (met c.args.checker.now c.intern.new.self) c.args.self.now c.requires.wanting c.in_ok-kind.ensures.kept c.in_ok-kind.ensures.goes

pub returns-in_err-kind : goal.returns-in_err-kind
returns-in_err-kind c = λ s q f e. no_memory typed_in kind_reached _ s s c.args.checker.now _ c.from_residual.result c.from_residual.ensures

pub returns : goal.returns
returns c = λ s q f e.
    has_of c.args.kind c.in_ok-kind.kind c.args.self.now f s s s c.args.checker.now (met c.args.checker.now c.intern.new.self) c.has.new.checker c.has.result c.in_ok-kind.ensures.goes c.in_ok-kind.ensures.stands refl
    c.in_ok-kind.ensures.made.is
    (c.has.ensures s (sound_on c.args.checker.now s c.intern.new.self q c.in_ok-kind.ensures.kept c.in_ok-kind.ensures.goes) f e)
