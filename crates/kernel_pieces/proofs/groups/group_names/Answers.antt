use Rattle.std.proofs.Common.{refl}
use Rattle.met_types.specs.States.{State}
use Rattle.kernel_declarations.specs.Becoming.{name_of}
use Rattle.kernel_pieces.proofs.Grouped.{one_more}
use Rattle.kernel_pieces.proofs.groups.group_names.Goals as goal

pub loop-index-preserved : goal.loop-index-preserved
loop-index-preserved c = λ (s : State).
    one_more s name_of c.args.declarations.now c.args.indexes.now c.loop-index.index-index _ c.loop-index.names c.push_name.new.names c.loop-index-test.true refl (c.loop-index.invariant s) (c.in_ok-push_name.ensures s)
