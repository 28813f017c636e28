use Rattle.std.proofs.Common.{true}
use Rattle.mo_types.specs.Heads.{mut_array_of}
use Rattle.typing_rules.specs.declared.condition.Condition.TheVariants as condition
use Rattle.typing_rules.specs.Ends.{Greatest}
use Rattle.typing_rules.specs.Terms as t
use Rattle.array_rules.proofs.ByArray.{array_unwanted, array_wanted, given_none}
use Rattle.array_rules.proofs.arrays.mutable_array.Goals as goal

pub returns-in-Some : goal.returns-in-Some
returns-in-Some g c =
    array_wanted c.args.layer.now.site c.args.items.now true mut_array_of (given_none c.args.layer.now.site c.args.items.now true (Greatest condition.NeedsType c.args.layer.now.site.at) t.MutableArray) c.args.scopes.now c.array_fits.new.scopes c.args.checker.now
    c.array_fits.new.checker c.array_fits.result c.wanted_mutable_array.result c.wanted_mutable_array.ensures.is c.in-Some.wanted c.in-Some.kind c.in-Some.is c.array_fits.ensures

pub returns-in-None : goal.returns-in-None
returns-in-None g c =
    array_unwanted c.args.layer.now.site c.args.items.now true mut_array_of (given_none c.args.layer.now.site c.args.items.now true (Greatest condition.NeedsType c.args.layer.now.site.at) t.MutableArray) c.args.scopes.now c.mutable_array_gives.new.scopes c.args.checker.now
    c.mutable_array_gives.new.checker c.mutable_array_gives.result c.wanted_mutable_array.result c.wanted_mutable_array.ensures.is c.in-None.is c.mutable_array_gives.ensures
