use Rattle.judging.specs.Views.{kind_reached, typed_in}
use Rattle.judging.proofs.Chains.{no_memory}
use Rattle.data_rules.proofs.ByVariant.{tag_next, tag_other, tag_unwanted, tag_wanted}
use Rattle.data_rules.proofs.variants.tag.Goals as goal

pub returns-in_err-wanted : goal.returns-in_err-wanted
returns-in_err-wanted c = no_memory typed_in kind_reached _ c.args.scopes.now c.args.scopes.now c.args.checker.now _ c.from_residual.result c.from_residual.ensures

pub returns-in-Some : goal.returns-in-Some
returns-in-Some c =
    tag_wanted c.args.site.now c.args.name.now (tag_next c.args.site.now c.args.name.now) (tag_other c.args.site.now c.args.name.now) c.args.scopes.now c.args.scopes.now c.args.checker.now c.tag_fits.new.checker c.tag_fits.result
    c.in_ok-wanted.field-0 c.in_ok-wanted.ensures.is c.in-Some.wanted c.in-Some.part c.in-Some.is (c.tag_fits.ensures c.args.scopes.now c.requires.sound)

pub returns-in-None : goal.returns-in-None
returns-in-None c =
    tag_unwanted c.args.site.now c.args.name.now (tag_next c.args.site.now c.args.name.now) (tag_other c.args.site.now c.args.name.now) c.args.scopes.now c.args.scopes.now c.args.checker.now c.tag_gives.new.checker c.tag_gives.result
    c.in_ok-wanted.field-0 c.in_ok-wanted.ensures.is c.in-None.is (c.tag_gives.ensures c.args.scopes.now c.requires.sound)
