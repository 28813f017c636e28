use Rattle.std.proofs.Common.{Some}
use Rattle.typing_rules.specs.AbstractSyntax as p
use Rattle.value_scopes.specs.Values.{noted}
use Rattle.judging.specs.Views.{each_in}
use Rattle.judging.proofs.Forms.{seen_Array}
use Rattle.judging.proofs.Steps.{reached_on, reached_within}
use Rattle.array_rules.proofs.ByArray.{array_fitted, fit_end, no_element}
use Rattle.array_rules.proofs.arrays.array_fits.Goals as goal

pub all-requires-clause-wanted : goal.all-requires-clause-wanted
all-requires-clause-wanted g c = reached_within c.args.checker.now.types c.args.kind c.requires.ready.sound.known.kept c.requires.kind

pub gives-requires : goal.gives-requires
gives-requires g c = reached_on c.args.checker.now.types c.all.new.checker.types c.args.wanted c.in_ok-made.ensures.answer.outcome.goes c.requires.wanted

pub returns-in_err-made : goal.returns-in_err-made
returns-in_err-made g c =
    no_element c.args.layer.now.site c.args.items.now (Some c.args.kind) (fit_end c.args.layer.now.site c.args.items.now c.args.mutable c.args.wanted c.args.kind) c.args.scopes.now c.all.new.scopes c.args.checker.now c.all.new.checker
    c.in_err-made.field-0.0 c.from_residual.result c.from_residual.ensures c.in_err-made.ensures.answer

pub returns : goal.returns
returns g c =
    array_fitted c.args.layer.now.site c.args.items.now c.args.mutable c.args.wanted c.args.kind c.args.scopes.now c.all.new.scopes c.args.checker.now c.all.new.checker c.in_ok-made.made c.gives.result c.in_ok-made.ensures.answer
    (c.gives.ensures c.all.new.scopes c.in_ok-made.ensures.ready.sound (λ later. p.Array c.args.mutable (each_in c.in_ok-made.made later)) (λ later. seen_Array (noted later) c.args.mutable c.in_ok-made.made))
