use Rattle.std.proofs.Common.{◌≡◌, ◌+◌, arith}
use Rattle.wasm_machine.proofs.Tops.{cut_none, cut_one}
use Rattle.wasm_machine.proofs.operands.cut.Goals as goal

pub returns-then-keep-eq0-clause-tops : goal.returns-then-keep-eq0-clause-tops
returns-then-keep-eq0-clause-tops c =
    let e : c.args.keep ≡ 0 = omega arith in
    let f : c.args.height + c.args.keep ≡ c.args.height = omega arith in
    rw (f, e) (cut_none c.args.stack.now c.args.held c.args.height (omega arith))

pub returns-clause-tops : goal.returns-clause-tops
returns-clause-tops c =
    let e : c.args.keep ≡ 1 = omega arith in
    rw e (cut_one c.args.stack.now c.args.held c.args.height (omega arith) (omega arith))
