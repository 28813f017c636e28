use Rattle.std.proofs.Common.{◌≡◌, ◌-◌, length}
use Rattle.wasm_read.specs.Sections.{customs, customs_at}
use Rattle.wasm_read.proofs.section.skip_customs.Given as goal

abbrev pub invariant-loop : goal.invariant-loop
invariant-loop l = customs_at (length l.bytes - l.counter) l.rest ≡ customs l.bytes
