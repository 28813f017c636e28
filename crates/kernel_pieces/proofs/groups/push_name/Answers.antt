use Rattle.std.proofs.Common.{◌<◌, ◌≤◌, length, arith}
use Rattle.met_types.specs.States.{State}
use Rattle.kernel_declarations.specs.Becoming.{name_of}
use Rattle.kernel_pieces.proofs.Grouped.{added_at, nothing_at}
use Rattle.kernel_pieces.proofs.groups.push_name.Goals as goal

pub returns-then-index-declarations : goal.returns-then-index-declarations
returns-then-index-declarations c = λ (s : State).
    let l : c.args.index < length c.args.declarations.now = omega arith in
    let d = c.index-declarations-index.result in
    added_at s name_of c.args.names.now c.push_function_name.new.names c.args.declarations.now c.args.index c.push_function_name.result d c.get.result.now l c.index-declarations-index.is c.get.ensures (c.push_function_name.ensures s d.note)

pub returns-else-index-declarations : goal.returns-else-index-declarations
returns-else-index-declarations c = λ (s : State). let l : length c.args.declarations.now ≤ c.args.index = omega arith in nothing_at s name_of c.args.names.now c.args.declarations.now c.args.index l
