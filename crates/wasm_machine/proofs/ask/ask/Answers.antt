use Rattle.std.proofs.Common.{◌≡◌, ◌+◌, ◌≤◌, length, arith, refl, ◌∙◌}
use Rattle.wasm_tree.specs.Frames.{optional}
use Rattle.wasm_machine.proofs.Given.{fits_many}
use Rattle.wasm_machine.proofs.ask.ask.Goals as goal

pub put_result-requires-clause-room : goal.put_result-requires-clause-room
put_result-requires-clause-room g c = λ value e.
    let f = c.requires.fitting in
    let many : length (optional c.in_ok-given.given) ≡ length f.type.results = fits_many f.type.results c.in_ok-given.given (c.in_ok-given.ensures.result f.type f.of_type) in
    let one : length (optional c.in_ok-given.given) ≡ 1 = rw e refl in
    let room : c.args.from + length f.type.results ≤ length c.args.cells.now = c.requires.room f.type f.of_type in
    omega arith

pub returns-clause-few : goal.returns-clause-few
returns-clause-few g c = λ t e. c.put_result.ensures.many ∙ fits_many t.results c.in_ok-given.given (c.in_ok-given.ensures.result t e)
