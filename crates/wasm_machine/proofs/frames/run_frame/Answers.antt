use Rattle.std.proofs.Common.{◌≡◌, length, drop, arith, ap, ◌∙◌}
use Rattle.std.proofs.lemmas.List.{drop-take}
use Rattle.wasm_machine.specs.Acts.{parts}
use Rattle.wasm_machine.specs.Stacks.{locals_of}
use Rattle.wasm_machine.proofs.Framed.{framed_ends}
use Rattle.wasm_machine.proofs.frames.run_frame.Goals as goal

pub returns-clause-ends : goal.returns-clause-ends
returns-clause-ends c = λ g calls frugal height keep whole e s.
    let h = c.split_at_mut-front.ensures in
    let k = c.split_at_mut-locals.ensures in
    let ls : c.split_at_mut-locals.result.1.now ≡ locals_of c.args.here c.args.cells.now = k.back ∙ ap (drop c.args.here.base) h.front ∙ drop-take c.args.here.base c.args.here.count c.args.cells.now in
    let count : length c.split_at_mut-locals.result.1.now ≡ c.args.here.count = let a = k.back_len in let b = h.front_len in omega arith in
    framed_ends g calls c.args.steps.now height keep whole c.args.here c.args.left (parts c.args.memory.now.bytes c.args.globals.now c.args.refused.now) (parts c.activate.new.memory.bytes c.activate.new.globals c.activate.new.refused) c.activate.result c.args.cells.now
    c.split_at_mut-locals.result.0.now c.split_at_mut-locals.result.1.now c.split_at_mut-front.result.1.now c.activate.new.locals c.activate.new.stack ls h.back count k.front_len c.activate.auto.locals (λ t. c.activate.ensures.ends g calls frugal height keep whole e t) s
