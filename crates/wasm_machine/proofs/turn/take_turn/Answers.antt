use Rattle.std.proofs.Common.{◌≡◌, ◌<◌, ℕ, List, length, Option, refl, sym, ap, ◌∙◌, subst, arith}
use Rattle.std.specs.Prelude.{slice_get}
use Rattle.wasm_tree.specs.declared.module_parts.Module.{Module}
use Rattle.wasm_tree.specs.Exec.{entry}
use Rattle.wasm_steps.specs.Layout.{IsModuleLayout}
use Rattle.wasm_machine.specs.declared.activate.End.TheVariants as end
use Rattle.wasm_machine.specs.Acts.{parts}
use Rattle.wasm_machine.specs.Asked.{IsMadeFor}
use Rattle.wasm_machine.specs.Running.{sought}
use Rattle.wasm_machine.proofs.Callees.{got_within}
use Rattle.wasm_machine.proofs.Turning.{no_log, comes_turned, asks_at, found_at, nothing_at, trapped_at, done_at, few_results, returned_at, good_at, active_at}
use Rattle.wasm_machine.proofs.turn.take_turn.Goals as goal

-- what a call in the table is, by another name of the module and the table
sought_by : (m n : Module) (t u : List (Option ℕ)) (x at : ℕ) (r o : Option ℕ) → m ≡ n → t ≡ u → r ≡ sought n x (entry (slice_get u at)) → r ≡ o → sought m x (entry (slice_get t at)) ≡ o
sought_by m n t u x at r o em et e is = ap (λ (l : Module). sought l x (entry (slice_get t at))) em ∙ ap (λ (l : List (Option ℕ)). sought n x (entry (slice_get l at))) et ∙ sym e ∙ is

pub run_frame-requires-clause-some : goal.run_frame-requires-clause-some
run_frame-requires-clause-some g c =
    let s = c.requires.some in
    active_at s.k c.args.layout.now.steps c.as_slice.result.now s.whole s.world c.args.saved.now c.args.cells.now c.args.here c.args.left c.args.most _ s.runs c.requires.stacked c.as_slice.ensures s.bound (ap (λ (m : Module). length m.globals) s.of_module ∙ s.named)

pub finish-caller-requires-clause-few : goal.finish-caller-requires-clause-few
finish-caller-requires-clause-few g c =
    let s = c.requires.some in
    let good = good_at s.k c.args.layout.now.steps s.whole s.world c.args.saved.now c.args.cells.now c.run_frame.new.cells c.args.here c.args.left _ (parts c.run_frame.new.memory.bytes c.run_frame.new.globals c.run_frame.new.refused) s.runs c.run_frame.ensures.below c.requires.stacked c.as_slice.result.now c.as_slice.ensures c.args.most s.bound (end.Done c.in-Done.rest c.in-Done.held) c.in-Done.ensures.ends in
    few_results s.k c.args.layout.now.steps s.whole s.world c.args.saved.now c.args.cells.now c.run_frame.new.cells c.args.here c.args.left _ (parts c.run_frame.new.memory.bytes c.run_frame.new.globals c.run_frame.new.refused) s.runs c.run_frame.ensures.below c.requires.stacked c.in-Done.rest c.in-Done.held good

pub returns-then-here-eq0-clause-turned : goal.returns-then-here-eq0-clause-turned
returns-then-here-eq0-clause-turned g c = λ k whole made em et bound runs.
    no_log g.H.Host.replies _ _ made whole _ refl (λ rest.
    let good = good_at k c.args.layout.now.steps (whole rest) _ c.args.saved.now c.args.cells.now c.run_frame.new.cells c.args.here c.args.left _ (parts c.run_frame.new.memory.bytes c.run_frame.new.globals c.run_frame.new.refused) (runs rest) c.run_frame.ensures.below c.requires.stacked c.as_slice.result.now c.as_slice.ensures c.args.most bound (end.Done c.in-Done.rest c.in-Done.held) c.in-Done.ensures.ends in
    done_at k c.args.layout.now.steps (whole rest) _ c.args.saved.now c.args.cells.now c.run_frame.new.cells c.args.here c.args.left _ _ (runs rest) c.run_frame.ensures.below c.requires.stacked c.in-Done.rest c.in-Done.held (let e : c.args.here.depth ≡ 0 = omega (arith, c.if-here-eq0.true) in e) good)

pub returns-else-here-eq0-clause-turned : goal.returns-else-here-eq0-clause-turned
returns-else-here-eq0-clause-turned g c = λ k whole made em et bound runs.
    no_log g.H.Host.replies _ _ made whole _ refl (λ rest.
    let good = good_at k c.args.layout.now.steps (whole rest) _ c.args.saved.now c.args.cells.now c.run_frame.new.cells c.args.here c.args.left _ (parts c.run_frame.new.memory.bytes c.run_frame.new.globals c.run_frame.new.refused) (runs rest) c.run_frame.ensures.below c.requires.stacked c.as_slice.result.now c.as_slice.ensures c.args.most bound (end.Done c.in-Done.rest c.in-Done.held) c.in-Done.ensures.ends in
    returned_at k c.args.layout.now.steps (whole rest) _ c.args.saved.now c.args.cells.now c.run_frame.new.cells c.args.here c.args.left _ _ (runs rest) c.run_frame.ensures.below c.requires.stacked c.in-Done.rest c.in-Done.held c.finish-caller.result c.finish-caller.new.cells good c.finish-caller.ensures.caller)

pub returns-in-Trapped-clause-turned : goal.returns-in-Trapped-clause-turned
returns-in-Trapped-clause-turned g c = λ k whole made em et bound runs.
    no_log g.H.Host.replies _ _ made whole _ refl (λ rest.
    let good = good_at k c.args.layout.now.steps (whole rest) _ c.args.saved.now c.args.cells.now c.run_frame.new.cells c.args.here c.args.left _ (parts c.run_frame.new.memory.bytes c.run_frame.new.globals c.run_frame.new.refused) (runs rest) c.run_frame.ensures.below c.requires.stacked c.as_slice.result.now c.as_slice.ensures c.args.most bound (end.Trapped c.in-Trapped.cause) c.in-Trapped.ensures.ends in
    trapped_at k c.args.layout.now.steps (whole rest) _ c.args.saved.now c.args.cells.now c.run_frame.new.cells c.args.here c.args.left _ _ (runs rest) c.run_frame.ensures.below c.requires.stacked c.in-Trapped.cause good)

pub call-called-requires-clause-some : goal.call-called-requires-clause-some
call-called-requires-clause-some g c =
    let s = c.requires.some in
    let after = parts c.run_frame.new.memory.bytes c.run_frame.new.globals c.run_frame.new.refused in
    let good = good_at s.k c.args.layout.now.steps s.whole s.world c.args.saved.now c.args.cells.now c.run_frame.new.cells c.args.here c.args.left _ after s.runs c.run_frame.ensures.below c.requires.stacked c.as_slice.result.now c.as_slice.ensures c.args.most s.bound (end.Asks c.in-Asks.function c.in-Asks.place c.in-Asks.rest c.in-Asks.held) c.in-Asks.ensures.ends in
    record {
      k = s.k;
      whole = s.whole;
      world = s.world;
      left = c.in-Asks.rest;
      p = after;
      laid = subst (λ (m : Module). IsModuleLayout m c.args.layout.now) (sym s.of_module) c.requires.laid;
      made_for = subst (λ (m : Module). IsMadeFor m (g.H.Host.types c.args.host.now)) (sym s.of_module) c.requires.made_for;
      asks = asks_at s.k c.args.layout.now.steps s.whole s.world c.args.saved.now c.args.cells.now c.run_frame.new.cells c.args.here c.args.left _ after s.runs c.run_frame.ensures.below c.requires.stacked c.in-Asks.function c.in-Asks.place c.in-Asks.rest c.in-Asks.held good;
    }

pub returns-in-Asks-clause-turned : goal.returns-in-Asks-clause-turned
returns-in-Asks-clause-turned g c = λ k whole made em et bound runs.
    let after = parts c.run_frame.new.memory.bytes c.run_frame.new.globals c.run_frame.new.refused in
    let came = c.call-called.ensures.came k whole made c.in-Asks.rest c.run_frame.new.globals c.run_frame.new.refused (subst (λ (m : Module). IsModuleLayout m c.args.layout.now) (sym em) c.requires.laid) (λ rest.
    let good = good_at k c.args.layout.now.steps (whole rest) _ c.args.saved.now c.args.cells.now c.run_frame.new.cells c.args.here c.args.left _ after (runs rest) c.run_frame.ensures.below c.requires.stacked c.as_slice.result.now c.as_slice.ensures c.args.most bound (end.Asks c.in-Asks.function c.in-Asks.place c.in-Asks.rest c.in-Asks.held) c.in-Asks.ensures.ends in
    asks_at k c.args.layout.now.steps (whole rest) _ c.args.saved.now c.args.cells.now c.run_frame.new.cells c.args.here c.args.left _ after (runs rest) c.run_frame.ensures.below c.requires.stacked c.in-Asks.function c.in-Asks.place c.in-Asks.rest c.in-Asks.held good) in
    comes_turned g.H.Host.replies _ _ made whole k c.args.layout.now.steps c.args.here _ _ c.in-Asks.rest _ c.call-called.result c.on.result c.on.ensures came

pub seek-requires-clause-signature : goal.seek-requires-clause-signature
seek-requires-clause-signature g c =
    let s = c.requires.some in
    let after = parts c.run_frame.new.memory.bytes c.run_frame.new.globals c.run_frame.new.refused in
    let good = good_at s.k c.args.layout.now.steps s.whole s.world c.args.saved.now c.args.cells.now c.run_frame.new.cells c.args.here c.args.left _ after s.runs c.run_frame.ensures.below c.requires.stacked c.as_slice.result.now c.as_slice.ensures c.args.most s.bound (end.Seeks c.in-Seeks.signature c.in-Seeks.at c.in-Seeks.place c.in-Seeks.rest c.in-Seeks.held) c.in-Seeks.ensures.ends in
    subst (λ (m : Module). c.in-Seeks.signature < length m.types) s.of_module (got_within s.k.within.types c.in-Seeks.signature good.type good.of_type)

pub call-called-requires-in-Some-clause-some : goal.call-called-requires-in-Some-clause-some
call-called-requires-in-Some-clause-some g c =
    let s = c.requires.some in
    let after = parts c.run_frame.new.memory.bytes c.run_frame.new.globals c.run_frame.new.refused in
    let good = good_at s.k c.args.layout.now.steps s.whole s.world c.args.saved.now c.args.cells.now c.run_frame.new.cells c.args.here c.args.left _ after s.runs c.run_frame.ensures.below c.requires.stacked c.as_slice.result.now c.as_slice.ensures c.args.most s.bound (end.Seeks c.in-Seeks.signature c.in-Seeks.at c.in-Seeks.place c.in-Seeks.rest c.in-Seeks.held) c.in-Seeks.ensures.ends in
    record {
      k = s.k;
      whole = s.whole;
      world = s.world;
      left = c.in-Seeks.rest;
      p = after;
      laid = subst (λ (m : Module). IsModuleLayout m c.args.layout.now) (sym s.of_module) c.requires.laid;
      made_for = subst (λ (m : Module). IsMadeFor m (g.H.Host.types c.args.host.now)) (sym s.of_module) c.requires.made_for;
      asks = found_at s.k c.args.layout.now.steps s.whole s.world c.args.saved.now c.args.cells.now c.run_frame.new.cells c.args.here c.args.left _ after s.runs c.run_frame.ensures.below c.requires.stacked c.in-Seeks.signature c.in-Seeks.at c.in-Seeks.place c.in-Seeks.rest c.in-Seeks.held c.in-Some.function good (sought_by _ _ _ _ _ _ _ _ s.of_module s.of_table c.seek.ensures c.in-Some.is);
    }

pub returns-in-Some-clause-turned : goal.returns-in-Some-clause-turned
returns-in-Some-clause-turned g c = λ k whole made em et bound runs.
    let after = parts c.run_frame.new.memory.bytes c.run_frame.new.globals c.run_frame.new.refused in
    let came = c.call-called-in-Some.ensures.came k whole made c.in-Seeks.rest c.run_frame.new.globals c.run_frame.new.refused (subst (λ (m : Module). IsModuleLayout m c.args.layout.now) (sym em) c.requires.laid) (λ rest.
    let good = good_at k c.args.layout.now.steps (whole rest) _ c.args.saved.now c.args.cells.now c.run_frame.new.cells c.args.here c.args.left _ after (runs rest) c.run_frame.ensures.below c.requires.stacked c.as_slice.result.now c.as_slice.ensures c.args.most bound (end.Seeks c.in-Seeks.signature c.in-Seeks.at c.in-Seeks.place c.in-Seeks.rest c.in-Seeks.held) c.in-Seeks.ensures.ends in
    found_at k c.args.layout.now.steps (whole rest) _ c.args.saved.now c.args.cells.now c.run_frame.new.cells c.args.here c.args.left _ after (runs rest) c.run_frame.ensures.below c.requires.stacked c.in-Seeks.signature c.in-Seeks.at c.in-Seeks.place c.in-Seeks.rest c.in-Seeks.held c.in-Some.function good (sought_by _ _ _ _ _ _ _ _ em et c.seek.ensures c.in-Some.is)) in
    comes_turned g.H.Host.replies _ _ made whole k c.args.layout.now.steps c.args.here _ _ c.in-Seeks.rest _ c.call-called-in-Some.result c.on-in-Some.result c.on-in-Some.ensures came

pub returns-in-None-clause-turned : goal.returns-in-None-clause-turned
returns-in-None-clause-turned g c = λ k whole made em et bound runs.
    no_log g.H.Host.replies _ _ made whole _ refl (λ rest.
    let good = good_at k c.args.layout.now.steps (whole rest) _ c.args.saved.now c.args.cells.now c.run_frame.new.cells c.args.here c.args.left _ (parts c.run_frame.new.memory.bytes c.run_frame.new.globals c.run_frame.new.refused) (runs rest) c.run_frame.ensures.below c.requires.stacked c.as_slice.result.now c.as_slice.ensures c.args.most bound (end.Seeks c.in-Seeks.signature c.in-Seeks.at c.in-Seeks.place c.in-Seeks.rest c.in-Seeks.held) c.in-Seeks.ensures.ends in
    nothing_at k c.args.layout.now.steps (whole rest) _ c.args.saved.now c.args.cells.now c.run_frame.new.cells c.args.here c.args.left _ _ (runs rest) c.run_frame.ensures.below c.requires.stacked c.in-Seeks.signature c.in-Seeks.at c.in-Seeks.place c.in-Seeks.rest c.in-Seeks.held good (sought_by _ _ _ _ _ _ _ _ em et c.seek.ensures c.in-None.is))
