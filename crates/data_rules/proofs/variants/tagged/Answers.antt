use Rattle.abstract_tree.specs.TreeView.{plain}
use Rattle.judging.specs.Views.{kind_reached, typed_in}
use Rattle.judging.proofs.Chains.{no_memory}
use Rattle.data_rules.proofs.ByVariant.{tag_unwanted, tag_wanted, tagged_next, tagged_other}
use Rattle.data_rules.proofs.variants.tagged.Goals as goal

pub returns-in_err-wanted : goal.returns-in_err-wanted
returns-in_err-wanted g c = no_memory typed_in kind_reached _ c.args.scopes.now _ c.args.checker.now _ c.from_residual.result c.from_residual.ensures

pub returns-in-Some : goal.returns-in-Some
returns-in-Some g c =
    tag_wanted c.args.layer.now.site c.args.name.now (tagged_next c.args.layer.now.site c.args.name.now (plain c.args.a.now)) (tagged_other c.args.layer.now.site c.args.name.now (plain c.args.a.now)) c.args.scopes.now c.tagged_fits.new.scopes
    c.args.checker.now c.tagged_fits.new.checker c.tagged_fits.result c.in_ok-wanted.field-0 c.in_ok-wanted.ensures.is c.in-Some.wanted c.in-Some.part c.in-Some.is c.tagged_fits.ensures

pub returns-in-None : goal.returns-in-None
returns-in-None g c =
    tag_unwanted c.args.layer.now.site c.args.name.now (tagged_next c.args.layer.now.site c.args.name.now (plain c.args.a.now)) (tagged_other c.args.layer.now.site c.args.name.now (plain c.args.a.now)) c.args.scopes.now c.tagged_gives.new.scopes
    c.args.checker.now c.tagged_gives.new.checker c.tagged_gives.result c.in_ok-wanted.field-0 c.in_ok-wanted.ensures.is c.in-None.is c.tagged_gives.ensures
