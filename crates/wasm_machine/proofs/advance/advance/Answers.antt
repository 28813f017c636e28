use Rattle.std.proofs.Common.{◌≡◌, ◌-◌, suc, Some, arith, subst}
use Rattle.wasm_steps.specs.Moves.{move_by}
use Rattle.wasm_machine.specs.Operands.{tops}
use Rattle.wasm_machine.specs.Acts.{parts, state_of, Moves}
use Rattle.wasm_machine.proofs.advance.advance.Goals as goal

pub returns-then-left-eq0-clause-held : goal.returns-then-left-eq0-clause-held
returns-then-left-eq0-clause-held c = c.exhausted.ensures.held _ c.requires.within

pub returns-then-left-eq0-clause-moves : goal.returns-then-left-eq0-clause-moves
returns-then-left-eq0-clause-moves c = λ g e.
    let p = parts c.args.memory.now.bytes c.args.globals.now c.args.refused.now in
    let none : 0 ≡ c.args.left = omega arith in
    subst (λ n. Moves g (move_by g.limits g.within c.args.steps.now (Some c.args.step) c.args.place (state_of g n c.args.locals.now p) (tops c.args.stack.now c.args.held)) c.exhausted.result c.args.locals.now p (tops c.args.stack.now)) none (c.exhausted.ensures.moves g c.args.steps.now c.args.place c.args.locals.now p c.args.stack.now)

pub returns-clause-moves : goal.returns-clause-moves
returns-clause-moves c = λ g e.
    let p = parts c.args.memory.now.bytes c.args.globals.now c.args.refused.now in
    let some : suc (c.args.left - 1) ≡ c.args.left = omega arith in
    subst (λ n. Moves g (move_by g.limits g.within c.args.steps.now (Some c.args.step) c.args.place (state_of g n c.args.locals.now p) (tops c.args.stack.now c.args.held)) c.take_step.result c.take_step.new.locals (parts c.take_step.new.memory.bytes c.take_step.new.globals c.take_step.new.refused) (tops c.take_step.new.stack)) some (c.take_step.ensures.moves g e)
