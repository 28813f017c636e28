-- Numbers are read exactly.
use Rattle.std.proofs.Common.{ℕ, ◌-◌, ◌^◌, List, length, arith, ℤ, pos, negsuc, ◌≤ℤ◌}
use Rattle.std.specs.Prelude.{FitsSigned}
use Rattle.std.specs.Int.{w32, w64}
use Rattle.std.proofs.lemmas.Int.{ints}
use Rattle.mo_num.specs.LebRead.{IsSigned}
use Rattle.wasm_tree.specs.Spelling.{IsU32, IsS32, IsS64}
use Rattle.exact_reading.proofs.Exact.{Exact, renamed}
use Rattle.exact_reading.proofs.Numbers.{IsUnsigned, IsSignedNumber, unsigned_exact, signed_exact}
use Rattle.wasm_read.specs.declared.fault.Fault.TheVariants.{Malformed}
use Rattle.wasm_read.specs.Fields.{u32_at, s32_at, s64_at}

pub to_u32 : (n : ℕ) (front : List ℕ) → IsUnsigned 32 n front → IsU32 n front
to_u32 n front h = record { small = h.2; short = h.1; spells = h.0 }

pub from_u32 : (n : ℕ) (front : List ℕ) → IsU32 n front → IsUnsigned 32 n front
from_u32 n front h = (h.spells, h.short, h.small)

pub u32_exact : Exact IsU32 u32_at
u32_exact = renamed (IsUnsigned 32) IsU32 u32_at to_u32 from_u32 (unsigned_exact Malformed Malformed 32)

fits32 : (z : ℤ) → negsuc (2 ^ 31 - 1) ≤ℤ z → z ≤ℤ pos (2 ^ 31 - 1) → FitsSigned w32 z
fits32 (pos n) lo hi = record { sfits = omega (arith, ints) }
fits32 (negsuc n) lo hi = record { sfits = omega (arith, ints) }

within32 : (z : ℤ) → FitsSigned w32 z → (negsuc (2 ^ 31 - 1) ≤ℤ z) × (z ≤ℤ pos (2 ^ 31 - 1))
within32 (pos n) h = let f = h.sfits in (omega (arith, ints), omega (arith, ints))
within32 (negsuc n) h = let f = h.sfits in (omega (arith, ints), omega (arith, ints))

fits64 : (z : ℤ) → negsuc (2 ^ 63 - 1) ≤ℤ z → z ≤ℤ pos (2 ^ 63 - 1) → FitsSigned w64 z
fits64 (pos n) lo hi = record { sfits = omega (arith, ints) }
fits64 (negsuc n) lo hi = record { sfits = omega (arith, ints) }

within64 : (z : ℤ) → FitsSigned w64 z → (negsuc (2 ^ 63 - 1) ≤ℤ z) × (z ≤ℤ pos (2 ^ 63 - 1))
within64 (pos n) h = let f = h.sfits in (omega (arith, ints), omega (arith, ints))
within64 (negsuc n) h = let f = h.sfits in (omega (arith, ints), omega (arith, ints))

pub signed32 : (z : ℤ) → IsSigned 32 z → FitsSigned w32 z
signed32 z h = fits32 z (omega (arith, ints, h.0)) (omega (arith, ints, h.1))

pub signed64 : (z : ℤ) → IsSigned 64 z → FitsSigned w64 z
signed64 z h = fits64 z (omega (arith, ints, h.0)) (omega (arith, ints, h.1))

is_signed32 : (z : ℤ) → FitsSigned w32 z → IsSigned 32 z
is_signed32 z f = let w = within32 z f in (omega (arith, ints, w.0), omega (arith, ints, w.1))

is_signed64 : (z : ℤ) → FitsSigned w64 z → IsSigned 64 z
is_signed64 z f = let w = within64 z f in (omega (arith, ints, w.0), omega (arith, ints, w.1))

pub s32_exact : Exact IsS32 s32_at
s32_exact = renamed (IsSignedNumber 32) IsS32 s32_at (λ z front h. record { small = signed32 z h.2; short = h.1; spells = h.0 }) (λ z front h. (h.spells, h.short, is_signed32 z h.small)) (signed_exact Malformed Malformed 32)

pub s64_exact : Exact IsS64 s64_at
s64_exact = renamed (IsSignedNumber 64) IsS64 s64_at (λ z front h. record { small = signed64 z h.2; short = h.1; spells = h.0 }) (λ z front h. (h.spells, h.short, is_signed64 z h.small)) (signed_exact Malformed Malformed 64)
