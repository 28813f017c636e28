use Rattle.std.proofs.Common.{◌<◌, ◌≤◌, length, Some, refl, sym, ◌∙◌, subst, arith, get_or}
use Rattle.wasm_steps.specs.declared.step.Step.TheVariants.{Nop}
use Rattle.wasm_steps.specs.Moves.{Done, On, Over, Asks, Seeks, Ready}
use Rattle.wasm_machine.specs.Operands.{tops}
use Rattle.wasm_machine.specs.Acts.{parts, state_of, store_of}
use Rattle.wasm_machine.proofs.Round.{active_within, active_ready, active_lower, active_on, active_spent, comes_to}
use Rattle.wasm_machine.proofs.activate.activate.Goals as goal

pub loop-to-init : goal.loop-to-init
loop-to-init c = record {
  place = active_within _ _ _ _ _ _ _ c.args.stack.now c.args.count c.requires.some;
  left = omega arith;
  held = c.requires.held;
  limit = refl;
  kept = refl;
  some = c.requires.some;
  stack = refl;
  locals = refl;
  globals = refl;
  stands = λ g calls frugal height keep whole e s. s;
}

pub advance-requires-clause-ready : goal.advance-requires-clause-ready
advance-requires-clause-ready c =
    subst (λ n. Ready c.args.steps.now (length c.loop-to.locals) (length c.loop-to.globals) n (Some (get_or c.args.steps.now c.loop-to.place Nop)) c.loop-to.place c.loop-to.held) (sym c.loop-to.invariant.stack) (active_ready _ _ _ _ _ _ _ c.loop-to.stack c.loop-to.held c.loop-to.invariant.some Nop)

pub loop-to-smaller : goal.loop-to-smaller
loop-to-smaller c =
    let some = active_on _ _ _ _ _ _ _ c.loop-to.stack c.loop-to.held c.loop-to.invariant.some Nop _ _ _ _ _ c.advance.auto.locals c.advance.auto.globals c.in-On.ensures.moves in
    let there : c.in-On.to < length c.args.steps.now = active_within _ _ _ _ _ _ _ c.advance.new.stack c.in-On.now some in
    active_lower _ _ _ _ _ _ _ c.loop-to.stack c.loop-to.held c.loop-to.invariant.some Nop _ _ _ _ _ (omega arith) c.in-On.ensures.moves

pub loop-to-preserved : goal.loop-to-preserved
loop-to-preserved c =
    let some = active_on _ _ _ _ _ _ _ c.loop-to.stack c.loop-to.held c.loop-to.invariant.some Nop _ _ _ _ _ c.advance.auto.locals c.advance.auto.globals c.in-On.ensures.moves in
    let fewer : c.in-On.rest ≤ c.loop-to.left = active_spent _ _ _ _ _ _ _ c.loop-to.stack c.loop-to.held c.loop-to.invariant.some Nop (λ g. On c.in-On.to (state_of g c.in-On.rest c.advance.new.locals (parts c.advance.new.memory.bytes c.advance.new.globals c.advance.new.refused)) (tops c.advance.new.stack c.in-On.now)) c.in-On.ensures.moves in
    record {
      place = active_within _ _ _ _ _ _ _ c.advance.new.stack c.in-On.now some;
      left = omega (arith, fewer, c.loop-to.invariant.left);
      held = omega (arith, c.in-On.ensures.held, c.advance.auto.stack);
      limit = c.in-On.ensures.limit ∙ c.loop-to.invariant.limit;
      kept = c.in-On.ensures.kept ∙ c.loop-to.invariant.kept;
      some = some;
      stack = c.advance.auto.stack ∙ c.loop-to.invariant.stack;
      locals = c.advance.auto.locals ∙ c.loop-to.invariant.locals;
      globals = c.advance.auto.globals ∙ c.loop-to.invariant.globals;
      stands = λ g calls frugal height keep whole e s. comes_to g calls frugal _ _ height keep whole _ _ _ (c.loop-to.invariant.stands g calls frugal height keep whole e s) c.loop-to.invariant.place Nop _ (c.in-On.ensures.moves g e);
    }

pub returns-in-Asks-clause-left : goal.returns-in-Asks-clause-left
returns-in-Asks-clause-left c =
    let fewer : c.in-Asks.rest < c.loop-to.left = active_spent _ _ _ _ _ _ _ c.loop-to.stack c.loop-to.held c.loop-to.invariant.some Nop (λ g. Asks c.in-Asks.function c.in-Asks.to (state_of g c.in-Asks.rest c.advance.new.locals (parts c.advance.new.memory.bytes c.advance.new.globals c.advance.new.refused)) (tops c.advance.new.stack c.in-Asks.now)) c.in-Asks.ensures.moves in
    omega (arith, c.loop-to.invariant.left)

pub returns-in-Asks-clause-ends : goal.returns-in-Asks-clause-ends
returns-in-Asks-clause-ends c = λ g calls frugal height keep whole e s.
    comes_to g calls frugal _ _ height keep whole _ _ _ (c.loop-to.invariant.stands g calls frugal height keep whole e s) c.loop-to.invariant.place Nop _ (c.in-Asks.ensures.moves g e)

pub returns-in-Seeks-clause-left : goal.returns-in-Seeks-clause-left
returns-in-Seeks-clause-left c =
    let fewer : c.in-Seeks.rest < c.loop-to.left = active_spent _ _ _ _ _ _ _ c.loop-to.stack c.loop-to.held c.loop-to.invariant.some Nop (λ g. Seeks c.in-Seeks.signature c.in-Seeks.at c.in-Seeks.to (state_of g c.in-Seeks.rest c.advance.new.locals (parts c.advance.new.memory.bytes c.advance.new.globals c.advance.new.refused)) (tops c.advance.new.stack c.in-Seeks.now)) c.in-Seeks.ensures.moves in
    omega (arith, c.loop-to.invariant.left)

pub returns-in-Seeks-clause-ends : goal.returns-in-Seeks-clause-ends
returns-in-Seeks-clause-ends c = λ g calls frugal height keep whole e s.
    comes_to g calls frugal _ _ height keep whole _ _ _ (c.loop-to.invariant.stands g calls frugal height keep whole e s) c.loop-to.invariant.place Nop _ (c.in-Seeks.ensures.moves g e)

pub returns-in-Done-clause-left : goal.returns-in-Done-clause-left
returns-in-Done-clause-left c =
    let fewer : c.in-Done.rest ≤ c.loop-to.left = active_spent _ _ _ _ _ _ _ c.loop-to.stack c.loop-to.held c.loop-to.invariant.some Nop (λ g. Over (Done c.in-Done.rest (store_of g (parts c.advance.new.memory.bytes c.advance.new.globals c.advance.new.refused)) (tops c.advance.new.stack c.in-Done.now))) c.in-Done.ensures.moves in
    omega (arith, c.loop-to.invariant.left)

pub returns-in-Done-clause-ends : goal.returns-in-Done-clause-ends
returns-in-Done-clause-ends c = λ g calls frugal height keep whole e s.
    comes_to g calls frugal _ _ height keep whole _ _ _ (c.loop-to.invariant.stands g calls frugal height keep whole e s) c.loop-to.invariant.place Nop _ (c.in-Done.ensures.moves g e)

pub returns-in-Trapped-clause-ends : goal.returns-in-Trapped-clause-ends
returns-in-Trapped-clause-ends c = λ g calls frugal height keep whole e s.
    comes_to g calls frugal _ _ height keep whole _ _ _ (c.loop-to.invariant.stands g calls frugal height keep whole e s) c.loop-to.invariant.place Nop _ (c.in-Trapped.ensures.moves g e)
