-- Numbers are read exactly.
use Rattle.std.proofs.Common.{ℕ, List, ℤ}
use Rattle.mo_types.specs.Spelling.{padded}
use Rattle.exact_reading.proofs.Exact.{Exact}
use Rattle.exact_reading.proofs.Numbers.{unsigned_exact, signed_exact}
use Rattle.candid_header.specs.declared.fault.Fault.{Fault}
use Rattle.candid_header.specs.declared.fault.Fault.TheVariants.{Short, BadTable}
use Rattle.candid_header.specs.Reading.{u32_at, s33_at}

-- an unsigned number of 32 bits
abbrev pub IsU32 : ℕ → List ℕ → Type 0
IsU32 n bytes = padded.unsigned 32 bytes n

pub u32_exact : (wide : Fault) → Exact IsU32 (u32_at wide)
u32_exact wide = unsigned_exact Short wide 32

-- a signed number of 33 bits
abbrev pub IsS33 : ℤ → List ℕ → Type 0
IsS33 z bytes = padded.signed 33 bytes z

pub s33_exact : Exact IsS33 s33_at
s33_exact = signed_exact Short BadTable 33
