-- The limits of an execution that a command line can set.
use Rattle.std.specs.Prelude.{◌^◌, ◌≤◌}
use Rattle.wasm_tree.specs.Exec.{ExecutionLimits}

pub record IsWithin (limits : ExecutionLimits) : Type 0 where
  pub least_steps : 10000 ≤ limits.steps
  pub most_steps : limits.steps ≤ 10 ^ 12
  pub least_pages : 1 ≤ limits.pages
  pub most_pages : limits.pages ≤ 8192
  pub least_stack : 8192 ≤ limits.stack
  pub most_stack : limits.stack ≤ 16777216
