use Rattle.std.proofs.Common.{ℕ, List, Bor}
use Rattle.std.specs.HashSet.{contains_by}
use Rattle.std.specs.Str.{bytes_eq}
use Rattle.wasm_valid.proofs.DistinctNames.{Seen}
use Rattle.wasm_valid.proofs.names.have_distinct_names.Given as goal

abbrev pub invariant-loop-export : goal.invariant-loop-export
invariant-loop-export l = Seen (λ q. contains_by (λ (w : Bor (List ℕ)). bytes_eq q w.now) l.names) l.exports l.export-index
