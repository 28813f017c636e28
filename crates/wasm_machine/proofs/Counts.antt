-- The count of wants of memory, over several calls.
use Rattle.std.proofs.Common.{ℕ, ◌≤◌, ◌+◌, ◌-◌, ◌^◌, arith}
use Rattle.std.specs.Prelude.{min}
use Rattle.std.proofs.Math.Nat.{min-le_left, min-le_right, le-min}
use Rattle.outer.specs.Causes.{Rose, next_count}

-- A rise after calls in which the count did not fall is a rise.
pub rose_after : (a b c : ℕ) → a ≤ b → Rose b c → Rose a c
rose_after a b c le rose =
    let left : min (a + 1) (2 ^ 64 - 1) ≤ b + 1 = omega (arith, min-le_left (a + 1) (2 ^ 64 - 1), le) in
    let both : min (a + 1) (2 ^ 64 - 1) ≤ min (b + 1) (2 ^ 64 - 1) = le-min left (min-le_right (a + 1) (2 ^ 64 - 1)) in
    omega (arith, both, rose)
