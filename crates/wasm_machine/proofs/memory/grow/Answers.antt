use Rattle.std.proofs.Common.{◌≡◌, ◌+◌, ◌≤◌, ◌++◌, arith, ap}
use Rattle.wasm_tree.specs.Exec.{pages_of}
use Rattle.page_store.specs.Pages.{KeptMemory, zero_pages}
use Rattle.wasm_machine.proofs.Grown.{grown_is}
use Rattle.wasm_machine.proofs.memory.grow.Goals as goal

pub returns-clause-grown : goal.returns-clause-grown
returns-clause-grown c =
    let longer : KeptMemory = record { limit = c.args.memory.now.limit; bytes = c.args.memory.now.bytes ++ zero_pages c.args.by; kept = c.args.memory.now.kept } in
    let within : pages_of c.args.memory.now.bytes + c.args.by ≤ c.args.most = omega (arith, c.if-from.false, c.from.ensures, c.from-2.ensures, c.from-3.ensures, c.size-size.ensures.value) in
    let done : c.grow.new.self ≡ longer = (rw c.unwrap.ensures at c.grow.ensures.grown) in
    grown_is _ _ _ _ within (ap (λ (p : KeptMemory). p.bytes) done)
