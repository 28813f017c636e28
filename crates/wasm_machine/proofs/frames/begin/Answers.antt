use Rattle.std.proofs.Common.{◌≡◌, ◌+◌, ◌-◌, ℕ, length, arith}
use Rattle.std.specs.Prelude.{slice_set}
use Rattle.std.proofs.lemmas.List.{length-set}
use Rattle.wasm_machine.specs.declared.frames.Saved.{Saved}
use Rattle.wasm_machine.specs.Stacks.{AgreeBelow}
use Rattle.wasm_machine.proofs.Handing.{cleared_agree, begin_frames, begin_locals, begin_stacked}
use Rattle.wasm_machine.proofs.frames.begin.Goals as goal

pub returns-clause-stacked : goal.returns-clause-stacked
returns-clause-stacked c =
    let s = c.requires.stacked in
    let x : Saved = record { place = c.args.place; base = c.args.here.base; count = c.args.here.count; height = c.args.here.height; room = c.args.here.room } in
    record {
      fits = omega (arith, s.fits, c.requires.arguments, c.requires.few, c.requires.frame, c.requires.room, c.clear.auto.cells);
      many = (let h = s.many in let k = c.requires.frame in let r = c.requires.room in let e : length (slice_set c.args.saved.now c.args.here.depth x) ≡ length c.args.saved.now = length-set c.args.saved.now c.args.here.depth x in omega arith);
      callers = begin_stacked c.args.saved.now x c.args.cells.now c.clear.new.cells c.args.here.depth _ 0 0 0 s.fits s.many (let h = s.many in omega arith) (let h = c.requires.arguments in omega arith) s.callers c.clear.auto.cells;
    }

pub returns-clause-frames : goal.returns-clause-frames
returns-clause-frames c =
    let s = c.requires.stacked in
    let x : Saved = record { place = c.args.place; base = c.args.here.base; count = c.args.here.count; height = c.args.here.height; room = c.args.here.room } in
    let end : ℕ = c.args.here.base + c.args.here.count + c.args.held - c.args.params in
    let low : AgreeBelow end c.clear.new.cells c.args.cells.now = cleared_agree c.args.cells.now c.clear.new.cells (end + c.args.params) c.args.body.locals end (let f = s.fits in let a = c.requires.arguments in let b = c.requires.few in let d = c.requires.frame in let e = c.requires.room in omega arith) c.clear.ensures (omega arith) in
    begin_frames c.args.saved.now x c.args.cells.now c.clear.new.cells c.args.here.depth end c.args.held c.args.params _ _ (let h = s.many in omega arith) c.requires.arguments (let h = c.requires.arguments in omega arith) low s.callers

pub returns-clause-locals : goal.returns-clause-locals
returns-clause-locals c =
    let s = c.requires.stacked in
    let end : ℕ = c.args.here.base + c.args.here.count + c.args.held - c.args.params in
    begin_locals c.args.cells.now c.clear.new.cells (c.args.here.base + c.args.here.count) end c.args.held c.args.params c.args.body.locals c.clear.ensures (let f = s.fits in let a = c.requires.arguments in let b = c.requires.few in let d = c.requires.frame in let e = c.requires.room in omega arith) (let h = c.requires.arguments in omega arith) c.requires.arguments
