use Rattle.std.proofs.Common.{length, refl}
use Rattle.wasm_machine.proofs.Handing.{known, finish_caller}
use Rattle.wasm_machine.proofs.frames.finish.Goals as goal

pub returns-clause-stacked : goal.returns-clause-stacked
returns-clause-stacked c =
    let k = known c.args.saved.now c.args.here.depth c.args.here.base (length c.args.cells.now) c.requires.some c.requires.stacked.callers in
    record {
      fits = rw c.give.auto.cells k.fits;
      many = k.many;
      callers = rw c.give.auto.cells k.callers;
    }

pub returns-clause-caller : goal.returns-clause-caller
returns-clause-caller c =
    finish_caller c.args.saved.now c.args.cells.now c.give.new.cells c.args.here _ c.args.results c.requires.some c.requires.stacked.callers c.give.ensures.below c.requires.few c.give.ensures.given refl refl refl
