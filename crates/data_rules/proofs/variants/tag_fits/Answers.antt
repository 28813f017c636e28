use Rattle.std.proofs.Common.{◌∙◌, List, ap, ℕ}
use Rattle.typing_rules.specs.AbstractSyntax as p
use Rattle.value_scopes.specs.Values.{noted}
use Rattle.judging.specs.Views.{kind_reached, typed_in}
use Rattle.judging.proofs.Chains.{no_memory}
use Rattle.judging.proofs.Forms.{seen_Tag}
use Rattle.judging.proofs.Steps.{reached_on}
use Rattle.data_rules.proofs.ByVariant.{no_tag, tag_given, tag_untaken}
use Rattle.data_rules.proofs.variants.tag_fits.Goals as goal

pub gives-requires : goal.gives-requires
gives-requires c = reached_on c.args.checker.now.types c.takes_unit.new.checker.types c.args.wanted c.in_ok-takes_unit-in-Some.ensures.goes c.requires.wanted

pub returns-in_err-takes_unit-in-Some : goal.returns-in_err-takes_unit-in-Some
returns-in_err-takes_unit-in-Some c = λ s q.
    tag_untaken c.args.site.now c.args.name.now c.args.wanted c.args.part s c.args.checker.now c.in-Some.part c.takes_unit.new.checker c.in_err-takes_unit-in-Some.field-0.0 c.from_residual.result c.in-Some.is c.from_residual.ensures
    (c.in_err-takes_unit-in-Some.ensures.answer s q)

pub returns-in_err-name-in-Some : goal.returns-in_err-name-in-Some
returns-in_err-name-in-Some c = λ s q. no_memory typed_in kind_reached _ s s c.args.checker.now _ c.from_residual-in_err-name-in-Some.result c.from_residual-in_err-name-in-Some.ensures

pub returns-in_ok-name-in-Some : goal.returns-in_ok-name-in-Some
returns-in_ok-name-in-Some c = λ s q.
    let h = c.in_ok-takes_unit-in-Some.ensures.answer s q in
    tag_given c.args.site.now c.args.name.now c.args.wanted c.args.part s c.args.checker.now c.in-Some.part c.takes_unit.new.checker c.takes_unit.new.checker c.gives.result c.in-Some.is h
    (c.gives.ensures s h.outcome.sound (λ later. p.Tag c.args.name.now) (λ later. seen_Tag (noted later) c.in_ok-name-in-Some.name ∙ ap (λ (y : List ℕ). p.Tag y) c.in_ok-name-in-Some.ensures))

pub returns-in-None : goal.returns-in-None
returns-in-None c = λ s q. no_tag c.args.site.now c.args.name.now c.args.wanted c.args.part s c.args.checker.now c.in-None.is
