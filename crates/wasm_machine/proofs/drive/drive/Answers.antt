use Rattle.std.proofs.Common.{◌≤◌, [], ◌++◌, refl, sym, ◌∙◌, subst, arith}
use Rattle.wasm_machine.specs.Acts.{parts}
use Rattle.wasm_machine.specs.Asked.{IsMadeFor}
use Rattle.wasm_machine.specs.Running.{play, replies_of}
use Rattle.wasm_machine.proofs.Driving.{none_yet, goes_with, done_with, stops_with, less_with, fit_with}
use Rattle.wasm_machine.proofs.drive.drive.Goals as goal

pub loop-next-init : goal.loop-next-init
loop-next-init g c = record {
  stacked = c.requires.stacked;
  held = c.requires.held;
  limit = refl;
  kept = refl;
  globals = refl;
  types = refl;
  count = omega arith;
  logged = λ k whole em et bound runs. none_yet g.H.Host.replies _ whole _ runs;
}

pub take_turn-requires-clause-made_for : goal.take_turn-requires-clause-made_for
take_turn-requires-clause-made_for g c = subst (λ ts. IsMadeFor c.args.tree.now ts) (sym c.loop-next.invariant.types) c.requires.made_for

pub take_turn-requires-clause-most : goal.take_turn-requires-clause-most
take_turn-requires-clause-most g c = let h = c.requires.most in let e = c.loop-next.invariant.limit in omega arith

pub take_turn-requires-clause-some : goal.take_turn-requires-clause-some
take_turn-requires-clause-some g c =
    let s = c.requires.some in
    let on = c.loop-next.invariant.logged s.k s.whole s.of_module s.of_table s.bound s.runs in
    record {
      k = s.k;
      of_module = s.of_module;
      of_table = s.of_table;
      whole = s.whole (replies_of on.log ++ []);
      world = play on.log [];
      bound = s.bound;
      named = s.named ∙ sym c.loop-next.invariant.globals;
      runs = on.on [];
    }

pub take_turn-requires-clause-stacked : goal.take_turn-requires-clause-stacked
take_turn-requires-clause-stacked g c = c.loop-next.invariant.stacked

pub take_turn-requires-clause-held : goal.take_turn-requires-clause-held
take_turn-requires-clause-held g c = c.loop-next.invariant.held

pub loop-next-smaller : goal.loop-next-smaller
loop-next-smaller g c = less_with c.loop-next.here c.loop-next.left _ c.in-Ok-On.next c.in-Ok-On.rest c.in-Ok-On.field-0-is c.in-Ok-On.ensures.less

pub loop-next-preserved : goal.loop-next-preserved
loop-next-preserved g c =
    let fit = fit_with c.loop-next.here c.take_turn.new.saved c.take_turn.new.cells _ c.in-Ok-On.next c.in-Ok-On.rest c.in-Ok-On.field-0-is c.in-Ok-On.ensures.fit in
    let counted : g.H.Host.count c.loop-next.host ≤ g.H.Host.count c.take_turn.new.host = c.take_turn.ensures.count in
    record {
      stacked = fit.0;
      held = fit.1;
      limit = c.take_turn.ensures.limit ∙ c.loop-next.invariant.limit;
      kept = c.take_turn.ensures.kept ∙ c.loop-next.invariant.kept;
      globals = c.take_turn.auto.globals ∙ c.loop-next.invariant.globals;
      types = c.take_turn.ensures.types ∙ c.loop-next.invariant.types;
      count = (let h = c.loop-next.invariant.count in omega arith);
      logged = λ k whole em et bound runs.
          let on = c.loop-next.invariant.logged k whole em et bound runs in
          goes_with g.H.Host.replies _ _ _ whole _ k c.args.layout.now.steps c.loop-next.here c.take_turn.new.saved c.take_turn.new.cells (parts c.take_turn.new.memory.bytes c.take_turn.new.globals c.take_turn.new.refused) on _ c.in-Ok-On.next c.in-Ok-On.rest c.in-Ok-On.field-0-is
          (c.in-Ok-On.ensures.turned k (λ rest. whole (replies_of on.log ++ rest)) on.log em et bound on.on);
    }

pub returns-in-Ok-Done-clause-ended : goal.returns-in-Ok-Done-clause-ended
returns-in-Ok-Done-clause-ended g c = λ k whole em et bound runs.
    let on = c.loop-next.invariant.logged k whole em et bound runs in
    done_with g.H.Host.replies _ _ _ whole _ k c.args.layout.now.steps c.loop-next.here c.take_turn.new.saved c.take_turn.new.cells (parts c.take_turn.new.memory.bytes c.take_turn.new.globals c.take_turn.new.refused) on _ c.in-Ok-Done.rest c.in-Ok-Done.field-0-1 c.in-Ok-Done.field-0-is
    (c.in-Ok-Done.ensures.turned k (λ rest. whole (replies_of on.log ++ rest)) on.log em et bound on.on)

pub returns-in-Err-clause-ended : goal.returns-in-Err-clause-ended
returns-in-Err-clause-ended g c = λ k whole em et bound runs.
    let on = c.loop-next.invariant.logged k whole em et bound runs in
    stops_with g.H.Host.replies _ _ _ whole _ k c.args.layout.now.steps c.loop-next.here c.take_turn.new.saved c.take_turn.new.cells (parts c.take_turn.new.memory.bytes c.take_turn.new.globals c.take_turn.new.refused) on c.in-Err.stop
    (c.in-Err.ensures.turned k (λ rest. whole (replies_of on.log ++ rest)) on.log em et bound on.on)
