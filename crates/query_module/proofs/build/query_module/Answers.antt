use Rattle.std.proofs.Common.{◌+◌, ◌*◌, ◌<◌, ◌≤◌, length, arith}
use Rattle.std.specs.List.{concat}
use Rattle.query_module.proofs.Replies.{joined_short}
use Rattle.query_module.proofs.build.query_module.Goals as goal

pub functions-requires : goal.functions-requires
functions-requires c =
    let short : length (concat c.in_ok-made.made) ≤ 6 + 16 * length c.args.methods.now = joined_short c.args.methods.now c.in_ok-made.made c.requires.named c.in_ok-made.ensures in
    let few : length c.args.methods.now ≤ 1000 = c.requires.few in
    let small : length (concat c.in_ok-made.made) < 2147483648 = omega arith in
    rw c.as_slice-2.ensures small
