use Rattle.std.proofs.Common.{rules}
use Rattle.candid_types.specs.Inside.{below}
use Rattle.candid_read.specs.Empty.{HasPassedItems, IsPassed}
use Rattle.candid_read.specs.Values.{known_part}
use Rattle.candid_types.specs.Shapes.{shape_at}
use Rattle.candid_read.proofs.Reach.{over_one}
use Rattle.candid_read.proofs.Passing.{passed_over, passed_items}
use Rattle.candid_read.proofs.skip.skip_part.Goals as goal

pub returns-then-is_passed-clause-found : goal.returns-then-is_passed-clause-found
returns-then-is_passed-clause-found c =
    let passed : IsPassed c.args.known.now.empty.items c.args.of = search rules in
    passed_over c.args.types.now c.args.known.now c.requires c.args.of passed _ c.args.bytes.now

pub returns-then-has_passed_items-clause-found : goal.returns-then-has_passed_items-clause-found
returns-then-has_passed_items-clause-found c =
    let items : HasPassedItems c.args.known.now.empty.items (shape_at c.args.known.now.shapes c.args.of) = search rules in
    passed_items c.args.types.now c.args.known.now c.requires c.args.of c.in_ok-part.part _ c.args.bytes.now c.in_ok-part.rest.now c.in_ok-part.ensures items

pub returns-clause-found : goal.returns-clause-found
returns-clause-found c =
    over_one (known_part c.args.types.now c.args.known.now) (below c.args.known.now.shapes) _ _ c.args.bytes.now c.in_ok-part.rest.now c.args.of c.in_ok-part.part c.in_ok-part.ensures c.in_ok-put.ensures.ok
