use Rattle.std.proofs.Common.{◌≡◌, ◌+◌, ◌-◌, ◌≤◌, ℕ, length, arith, sym, ap, ◌∙◌}
use Rattle.wasm_machine.specs.HostCame.{goes_on}
use Rattle.wasm_machine.proofs.Calling.{result_on}
use Rattle.wasm_machine.proofs.call.call_host.Goals as goal

pub returns-in-Ok-clause-came : goal.returns-in-Ok-clause-came
returns-in-Ok-clause-came g c =
    let a = c.in-Ok.ensures.asked in
    record {
      result = a.result;
      few = λ t e. sym a.many ∙ c.in-Ok.ensures.few t e;
      next_is = ap (λ (n : ℕ). goes_on c.args.here c.args.place (c.args.held - c.args.params + n)) a.many;
      operands = result_on c.args.cells.now c.ask.new.cells (c.args.here.base + c.args.here.count) c.args.held c.args.params (c.args.here.base + c.args.here.count + c.args.held - c.args.params) a.result c.requires.arguments (let h = c.requires.arguments in omega arith) c.ask.ensures.below a.there;
      replied = a.replied;
    }

pub returns-in-Ok-clause-cells : goal.returns-in-Ok-clause-cells
returns-in-Ok-clause-cells g c =
    let f = c.requires.fitting in
    let many : c.in-Ok.given ≡ length f.type.results = c.in-Ok.ensures.few f.type f.of_type in
    let room : c.args.here.base + c.args.here.count + c.args.held - c.args.params + length f.type.results ≤ length c.args.cells.now = c.requires.room f.type f.of_type in
    let same : length c.ask.new.cells ≡ length c.args.cells.now = c.ask.auto.cells in
    let le = c.requires.arguments in
    omega arith
