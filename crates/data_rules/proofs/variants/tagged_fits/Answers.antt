use Rattle.std.proofs.Common.{◌∙◌, List, ap, rules, ℕ}
use Rattle.typing_rules.specs.AbstractSyntax as p
use Rattle.abstract_tree.specs.TreeView.{plain}
use Rattle.value_scopes.specs.Values.{noted}
use Rattle.judging.specs.Views.{kind_reached, typed_in}
use Rattle.judging.proofs.Chains.{no_memory}
use Rattle.judging.proofs.Forms.{seen_Tagged}
use Rattle.judging.proofs.Steps.{reached_on, reached_within}
use Rattle.data_rules.proofs.ByVariant.{tagged_given, tagged_none, tagged_unfit}
use Rattle.data_rules.proofs.variants.tagged_fits.Goals as goal

pub part-requires-clause-wanted : goal.part-requires-clause-wanted
part-requires-clause-wanted g c = reached_within c.args.checker.now.types c.in-Some.part c.requires.ready.sound.known.kept (search rules)

pub gives-requires : goal.gives-requires
gives-requires g c = reached_on c.args.checker.now.types c.part.new.checker.types c.args.wanted c.in_ok-of-in-Some.ensures.answer.outcome.goes c.requires.wanted

pub returns-in_err-of-in-Some : goal.returns-in_err-of-in-Some
returns-in_err-of-in-Some g c =
    tagged_unfit c.args.layer.now.site c.args.name.now (plain c.args.a.now) c.args.wanted c.args.part c.args.scopes.now c.part.new.scopes c.args.checker.now c.part.new.checker c.in-Some.part c.in_err-of-in-Some.field-0.0 c.from_residual.result
    c.in-Some.is c.from_residual.ensures c.in_err-of-in-Some.ensures.answer

pub returns-in_err-name-in-Some : goal.returns-in_err-name-in-Some
returns-in_err-name-in-Some g c = no_memory typed_in kind_reached _ c.args.scopes.now _ c.args.checker.now _ c.from_residual-in_err-name-in-Some.result c.from_residual-in_err-name-in-Some.ensures

pub returns-in_ok-name-in-Some : goal.returns-in_ok-name-in-Some
returns-in_ok-name-in-Some g c =
    tagged_given c.args.layer.now.site c.args.name.now (plain c.args.a.now) c.args.wanted c.args.part c.args.scopes.now c.part.new.scopes c.args.checker.now c.part.new.checker c.in-Some.part c.in_ok-of-in-Some.of c.gives.result
    c.in-Some.is c.in_ok-of-in-Some.ensures.answer
    (c.gives.ensures c.part.new.scopes c.in_ok-of-in-Some.ensures.ready.sound (λ later. p.Tagged c.args.name.now (typed_in c.in_ok-of-in-Some.of later))
    (λ later. seen_Tagged (noted later) c.in_ok-name-in-Some.name c.in_ok-of-in-Some.of ∙ ap (λ (y : List ℕ). p.Tagged y (typed_in c.in_ok-of-in-Some.of later)) c.in_ok-name-in-Some.ensures))

pub returns-in-None : goal.returns-in-None
returns-in-None g c = tagged_none c.args.layer.now.site c.args.name.now (plain c.args.a.now) c.args.wanted c.args.part c.args.scopes.now c.args.checker.now c.in-None.is
