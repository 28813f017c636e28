use Rattle.wasm_write.proofs.Least.{each_left, each_completes, each_done}
use Rattle.wasm_write.proofs.spell.put_list.Goals as goal

pub loop-item-preserved : goal.loop-item-preserved
loop-item-preserved g c = record {
  left = each_left g.T.Spell.spelled c.args.items.now c.loop-item.item-index c.item-item.result c.loop-item-test.true c.item-item.is c.loop-item.invariant.left;
  completes = each_completes g.T.Spell.spelled c.args.items.now c.loop-item.item-index c.item-item.result _ c.loop-item.out c.put.new.out c.loop-item-test.true c.item-item.is c.loop-item.invariant.completes c.in_ok-put.ensures;
}

pub returns : goal.returns
returns g c = each_done g.T.Spell.spelled c.args.items.now c.loop-item.item-index _ c.loop-item.out c.loop-item-test.false c.loop-item.invariant.completes
