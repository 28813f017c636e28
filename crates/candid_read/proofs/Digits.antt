-- Numbers of 70 bits are read exactly.
use Rattle.std.proofs.Common.{ℕ, List, ℤ}
use Rattle.mo_types.specs.Spelling.{padded}
use Rattle.candid_header.specs.declared.fault.Fault.TheVariants.{Short, NumberLimit}
use Rattle.exact_reading.proofs.Exact.{Exact}
use Rattle.exact_reading.proofs.Numbers.{unsigned_exact, signed_exact}
use Rattle.candid_read.specs.Parts.{u70_at, s70_at}

-- an unsigned number of 70 bits
abbrev pub IsU70 : ℕ → List ℕ → Type 0
IsU70 n bytes = padded.unsigned 70 bytes n

pub u70_exact : Exact IsU70 u70_at
u70_exact = unsigned_exact Short NumberLimit 70

-- a signed number of 70 bits
abbrev pub IsS70 : ℤ → List ℕ → Type 0
IsS70 z bytes = padded.signed 70 bytes z

pub s70_exact : Exact IsS70 s70_at
s70_exact = signed_exact Short NumberLimit 70
