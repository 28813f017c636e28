use Rattle.std.proofs.Common.{◌<◌, ◌≤◌, length, arith}
use Rattle.kernel_declarations.specs.Becoming.{made_in}
use Rattle.kernel_pieces.proofs.Grouped.{added_at, nothing_at}
use Rattle.kernel_pieces.proofs.groups.push_at.Goals as goal

pub returns-then-index-declarations-clause-made : goal.returns-then-index-declarations-clause-made
returns-then-index-declarations-clause-made g c =
    let l : c.args.index < length c.args.declarations.now = omega arith in
    added_at c.args.lists.now.layer.types.now (made_in c.args.frames.now) c.args.made.now c.push_function.new.made c.args.declarations.now c.args.index c.push_function.result c.index-declarations-index.result c.get.result.now l c.index-declarations-index.is c.get.ensures
    c.push_function.ensures.made

pub returns-else-index-declarations-clause-made : goal.returns-else-index-declarations-clause-made
returns-else-index-declarations-clause-made g c =
    let l : length c.args.declarations.now ≤ c.args.index = omega arith in
    nothing_at c.args.lists.now.layer.types.now (made_in c.args.frames.now) c.args.made.now c.args.declarations.now c.args.index l
