use Rattle.std.proofs.Common.{◌≡◌, ◌<◌, None, refl, sym, ap, arith}
use Rattle.wasm_tree.specs.Frames.{defined}
use Rattle.page_store.specs.Pages.{KeptMemory}
use Rattle.wasm_machine.proofs.Callees.{callee_at, callee_within, is_host}
use Rattle.wasm_machine.proofs.Entering.{machine, host_ran, full_ran, enough_cells, params_are, whole_of, first_runs, ended_ran}
use Rattle.wasm_machine.proofs.execution.execute.Goals as goal

pub function_at-callee-requires : goal.function_at-callee-requires
function_at-callee-requires g c = let k = c.requires.callable in callee_within _ _ c.requires.laid _ k.type k.of_type

pub enter_host-requires : goal.enter_host-requires
enter_host-requires g c =
    let k = c.requires.callable in
    let known = callee_at _ _ c.requires.laid _ _ c.function_at-callee.ensures k.type k.of_type in
    let host : defined c.args.tree.now c.args.function ≡ None = is_host _ _ _ _ _ known.body c.in-None.is in
    record { fitting = record { type = k.type; of_type = c.requires.made_for c.args.function k.type k.of_type host; many = k.many } }

pub returns-then-body-words-clause-ran : goal.returns-then-body-words-clause-ran
returns-then-body-words-clause-ran g c =
    full_ran c.args.tree.now c.args.layout.now c.requires.laid c.args.function c.args.args.now c.requires.callable _ c.function_at-callee.ensures c.args.limit c.args.memory.now.limit c.args.words c.args.table.now c.args.memory.now.bytes c.args.globals.now c.args.refused.now _ c.in-Some.is g.H.Host.replies _ _ refl c.if-body-words.true

pub start-requires : goal.start-requires
start-requires g c =
    let e = enough_cells c.args.tree.now c.args.layout.now c.requires.laid c.args.function c.args.args.now c.requires.callable _ c.function_at-callee.ensures c.args.limit c.args.memory.now.limit c.args.words c.args.table.now c.args.memory.now.bytes c.args.globals.now c.args.refused.now _ c.in-Some.is in
    let w = c.requires.cells in
    let r = c.if-body-words.false in
    omega arith

pub overflow_add-first : goal.overflow_add-first
overflow_add-first g c =
    let e = enough_cells c.args.tree.now c.args.layout.now c.requires.laid c.args.function c.args.args.now c.requires.callable _ c.function_at-callee.ensures c.args.limit c.args.memory.now.limit c.args.words c.args.table.now c.args.memory.now.bytes c.args.globals.now c.args.refused.now _ c.in-Some.is in
    let p = params_are c.args.tree.now c.args.layout.now c.requires.laid c.args.function c.args.args.now c.requires.callable _ c.function_at-callee.ensures c.args.limit c.args.memory.now.limit c.args.words c.args.table.now c.args.memory.now.bytes c.args.globals.now c.args.refused.now _ c.in-Some.is in
    let r = c.if-body-words.false in
    let f : c.args.words < 18446744073709551616 = c.ranges.words.fits in
    record { fits = omega arith }

pub drive-requires-clause-some : goal.drive-requires-clause-some
drive-requires-clause-some g c = record {
  k = machine c.args.tree.now c.args.layout.now c.requires.laid c.args.function c.args.args.now c.requires.callable _ c.function_at-callee.ensures c.args.limit c.args.memory.now.limit c.args.words c.args.table.now c.args.memory.now.bytes c.args.globals.now c.args.refused.now;
  of_module = refl;
  of_table = refl;
  bound = sym c.requires.most;
  named = c.requires.globals;
  whole = whole_of c.args.tree.now c.args.layout.now c.requires.laid c.args.function c.args.args.now c.requires.callable _ c.function_at-callee.ensures c.args.limit c.args.memory.now.limit c.args.words c.args.table.now c.args.memory.now.bytes c.args.globals.now c.args.refused.now _ c.in-Some.is;
  runs = first_runs c.args.tree.now c.args.layout.now c.requires.laid c.args.function c.args.args.now c.requires.callable _ c.function_at-callee.ensures c.args.limit c.args.memory.now.limit c.args.words c.args.table.now c.args.memory.now.bytes c.args.globals.now c.args.refused.now _ c.in-Some.is c.args.saved.now c.start.new.cells c.start.ensures;
}

pub drive-requires-clause-stacked : goal.drive-requires-clause-stacked
drive-requires-clause-stacked g c =
    let e = enough_cells c.args.tree.now c.args.layout.now c.requires.laid c.args.function c.args.args.now c.requires.callable _ c.function_at-callee.ensures c.args.limit c.args.memory.now.limit c.args.words c.args.table.now c.args.memory.now.bytes c.args.globals.now c.args.refused.now _ c.in-Some.is in
    let p = params_are c.args.tree.now c.args.layout.now c.requires.laid c.args.function c.args.args.now c.requires.callable _ c.function_at-callee.ensures c.args.limit c.args.memory.now.limit c.args.words c.args.table.now c.args.memory.now.bytes c.args.globals.now c.args.refused.now _ c.in-Some.is in
    let r = c.if-body-words.false in
    let w = c.requires.cells in
    let s = c.requires.frames in
    let same = c.start.auto.cells in
    record { fits = omega arith; many = omega arith; callers = tt }

pub drive-requires-clause-held : goal.drive-requires-clause-held
drive-requires-clause-held g c =
    let e = enough_cells c.args.tree.now c.args.layout.now c.requires.laid c.args.function c.args.args.now c.requires.callable _ c.function_at-callee.ensures c.args.limit c.args.memory.now.limit c.args.words c.args.table.now c.args.memory.now.bytes c.args.globals.now c.args.refused.now _ c.in-Some.is in
    let p = params_are c.args.tree.now c.args.layout.now c.requires.laid c.args.function c.args.args.now c.requires.callable _ c.function_at-callee.ensures c.args.limit c.args.memory.now.limit c.args.words c.args.table.now c.args.memory.now.bytes c.args.globals.now c.args.refused.now _ c.in-Some.is in
    let r = c.if-body-words.false in
    let w = c.requires.cells in
    let same = c.start.auto.cells in
    omega arith

pub returns-in-None-clause-ran : goal.returns-in-None-clause-ran
returns-in-None-clause-ran g c =
    host_ran c.args.tree.now c.args.layout.now c.requires.laid c.args.function c.args.args.now c.requires.callable _ c.function_at-callee.ensures c.args.limit c.args.memory.now.limit c.args.words c.args.table.now c.args.memory.now.bytes c.args.globals.now c.args.refused.now g.H.Host.replies _ _ c.in-None.is (g.H.Host.types c.args.host.now) c.requires.made_for c.enter_host.new.memory.bytes _ (λ e. ap (λ (x : KeptMemory). x.bytes) e) c.enter_host.result c.enter_host.ensures.entered

pub returns-else-body-words-clause-ran : goal.returns-else-body-words-clause-ran
returns-else-body-words-clause-ran g c =
    let w = whole_of c.args.tree.now c.args.layout.now c.requires.laid c.args.function c.args.args.now c.requires.callable _ c.function_at-callee.ensures c.args.limit c.args.memory.now.limit c.args.words c.args.table.now c.args.memory.now.bytes c.args.globals.now c.args.refused.now _ c.in-Some.is in
    let k = machine c.args.tree.now c.args.layout.now c.requires.laid c.args.function c.args.args.now c.requires.callable _ c.function_at-callee.ensures c.args.limit c.args.memory.now.limit c.args.words c.args.table.now c.args.memory.now.bytes c.args.globals.now c.args.refused.now in
    let runs = first_runs c.args.tree.now c.args.layout.now c.requires.laid c.args.function c.args.args.now c.requires.callable _ c.function_at-callee.ensures c.args.limit c.args.memory.now.limit c.args.words c.args.table.now c.args.memory.now.bytes c.args.globals.now c.args.refused.now _ c.in-Some.is c.args.saved.now c.start.new.cells c.start.ensures in
    ended_ran c.args.tree.now c.args.layout.now c.requires.laid c.args.function c.args.args.now c.requires.callable _ c.function_at-callee.ensures c.args.limit c.args.memory.now.limit c.args.words c.args.table.now c.args.memory.now.bytes c.args.globals.now c.args.refused.now _ c.in-Some.is g.H.Host.replies _ _ c.drive.new.memory.bytes c.drive.new.globals c.drive.new.refused c.if-body-words.false c.drive.result
    (c.drive.ensures.ended k w refl refl (sym c.requires.most) runs)
