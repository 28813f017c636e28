-- Modules that are too large for places of 32 bits.
use Rattle.std.specs.Prelude.{◌≡◌, ◌<◌, ◌≤◌, ℕ, ◌+◌, ◌^◌, List, length, slice_get, Some}
use Rattle.std.specs.List.{sum_by}
use Rattle.wasm_tree.specs.declared.module_parts.Locals.{Locals}
use Rattle.wasm_tree.specs.declared.module_parts.Function.{Function}

abbrev pub locals_of : List Locals → ℕ
locals_of groups = sum_by (λ l. l.count) groups

-- A body takes at most a step for each of its instructions and marks, and one for its end.
abbrev pub room_of : List Function → ℕ
room_of functions = sum_by (λ f. length f.body + 1) functions

-- The code might take 2^32 steps or more, or one of the functions has 2^32 locals or more.
pub data IsTooLarge (functions : List Function) : Type 0 where
  TooMuchCode : 2 ^ 32 ≤ room_of functions → IsTooLarge functions
  TooManyLocals : (place : ℕ) (f : Function) → slice_get functions place ≡ Some f → 2 ^ 32 ≤ locals_of f.locals → IsTooLarge functions

pub record IsSmall (functions : List Function) : Type 0 where
  pub code : room_of functions < 2 ^ 32
  pub locals : (place : ℕ) (f : Function) → slice_get functions place ≡ Some f → locals_of f.locals < 2 ^ 32
