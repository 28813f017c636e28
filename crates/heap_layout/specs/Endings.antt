-- How a routine ends that calls the host's trap.
use Rattle.std.specs.Prelude.{ℕ, ◌+◌, List}
use Rattle.wasm_tree.specs.declared.trap.Trap.TheVariants as trap
use Rattle.wasm_tree.specs.Exec.{Store, HostAnswer, Answers, Refuses}
use Rattle.low_rules.specs.Rule.{CallEnd, Dies}

abbrev pub after_host : {World : Type 0} → Store World → List ℕ → World → Store World
after_host store memory world = record { memory = memory; globals = store.globals; table = store.table; refused = store.refused; world = world }

-- Where the host answers so: its trap ends the execution, and were it to come back the execution would end none the less.
abbrev pub trap_end : {World : Type 0} → Store World → ℕ → HostAnswer World → CallEnd World
trap_end store cost (Answers value memory world) = Dies trap.Unreachable (cost + 1) (after_host store memory world)
trap_end store cost (Refuses world) = Dies trap.Host cost (after_host store store.memory world)
