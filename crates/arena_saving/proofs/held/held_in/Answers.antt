use Rattle.std.proofs.Common.{get_or}
use Rattle.arena_saving.proofs.Cells.{cell_within, held_begin, held_on, held_whole, read_there}
use Rattle.arena_saving.proofs.held.held_in.Goals as goal

pub loop-cell-init : goal.loop-cell-init
loop-cell-init c = held_begin c.args.arena.now c.args.store.now c.new-found.result.items c.new-found.ensures.items

pub put_held-requires-clause-cell : goal.put_held-requires-clause-cell
put_held-requires-clause-cell c = cell_within c.args.arena.now c.args.cells.now c.loop-cell.cell-index (get_or c.args.cells.now c.loop-cell.cell-index (record { index = 0 })) c.requires.cells c.loop-cell-test.true (read_there c.args.cells.now c.loop-cell.cell-index (record { index = 0 }) c.loop-cell-test.true)

pub loop-cell-preserved : goal.loop-cell-preserved
loop-cell-preserved c =
    held_on c.args.arena.now c.args.store.now c.args.cells.now c.loop-cell.cell-index (get_or c.args.cells.now c.loop-cell.cell-index (record { index = 0 })) c.loop-cell.found.items c.put_held.new.found.items c.loop-cell-test.true (read_there c.args.cells.now c.loop-cell.cell-index (record { index = 0 }) c.loop-cell-test.true) c.loop-cell.invariant c.in_ok-put_held.ensures

pub returns-clause-means : goal.returns-clause-means
returns-clause-means c = (held_whole c.args.arena.now c.args.store.now c.args.cells.now c.loop-cell.cell-index c.loop-cell.found.items c.loop-cell-test.false c.loop-cell.invariant).means

pub returns-clause-within : goal.returns-clause-within
returns-clause-within c = c.loop-cell.invariant.within tt
