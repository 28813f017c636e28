use Rattle.std.proofs.Common.{false}
use Rattle.mo_types.specs.Heads.{array_of}
use Rattle.typing_rules.specs.Expressions.{Elements}
use Rattle.typing_rules.specs.Terms as t
use Rattle.array_rules.proofs.ByArray.{array_unwanted, array_wanted, given_none}
use Rattle.array_rules.proofs.arrays.array.Goals as goal

pub returns-in-Some : goal.returns-in-Some
returns-in-Some g c =
    array_wanted c.args.layer.now.site c.args.items.now false array_of (given_none c.args.layer.now.site c.args.items.now false (Elements c.args.layer.now.site.at) t.Array) c.args.scopes.now c.array_fits.new.scopes c.args.checker.now
    c.array_fits.new.checker c.array_fits.result c.wanted_array.result c.wanted_array.ensures.is c.in-Some.wanted c.in-Some.kind c.in-Some.is c.array_fits.ensures

pub returns-in-None : goal.returns-in-None
returns-in-None g c =
    array_unwanted c.args.layer.now.site c.args.items.now false array_of (given_none c.args.layer.now.site c.args.items.now false (Elements c.args.layer.now.site.at) t.Array) c.args.scopes.now c.array_gives.new.scopes c.args.checker.now
    c.array_gives.new.checker c.array_gives.result c.wanted_array.result c.wanted_array.ensures.is c.in-None.is c.array_gives.ensures
