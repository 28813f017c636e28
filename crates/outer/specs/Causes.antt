-- Why a call may answer that it failed: the count of faults of its object.
use Rattle.std.specs.Prelude.{ℕ, ◌+◌, ◌-◌, ◌^◌, ◌≤◌, min, IsErrOf, Ok, Err}
use Rattle.std.specs.declared.result.Result.{Result}
use Rattle.outer.specs.declared.outside.OutsideFault.{OutsideFault}
use Rattle.outer.specs.declared.outside.OutsideFault.TheVariants.{Failed, Memory}

-- one more than the count, which stays where it is at 2 ^ 64 - 1
abbrev pub next_count : ℕ → ℕ
next_count n = min (n + 1) (2 ^ 64 - 1)

-- the count went up, or stands at 2 ^ 64 - 1
abbrev pub Rose : ℕ → ℕ → Type 0
Rose before now = next_count before ≤ now

-- the count did not fall, and the call answered `Failed` only where it rose
pub record HasCause {T : Type 0} (before now : ℕ) (result : Result T OutsideFault) : Type 0 where
  pub later : before ≤ now
  pub failed : IsErrOf result Failed → Rose before now

-- the count after a call, where each call that answers `Failed` is counted and no other
abbrev pub count_of_failures : {T : Type 0} → ℕ → Result T OutsideFault → ℕ
count_of_failures before (Ok value) = before
count_of_failures before (Err Failed) = next_count before
count_of_failures before (Err Memory) = before

-- the count after a call, where each call that answers an error is counted and no other
abbrev pub count_of_errors : {T : Type 0} → ℕ → Result T OutsideFault → ℕ
count_of_errors before (Ok value) = before
count_of_errors before (Err fault) = next_count before
