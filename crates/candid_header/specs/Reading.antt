-- Reading the fields of a header, with the fault that each shows.
use Rattle.std.specs.Prelude.{ℕ, List, Result, Option, None, ℤ}
use Rattle.exact_reading.specs.Reading as exact
use Rattle.candid_header.specs.declared.fault.Fault.{Fault}
use Rattle.candid_header.specs.declared.fault.Fault.TheVariants.{Short, BadTable}

-- Reading a value of this kind.
abbrev pub Reading : Type 0 → Type 0
Reading X = exact.Reading Fault X

-- What its first byte tells.
abbrev pub first : {Y : Type 0} → (ℕ → List ℕ → Result Y Fault) → List ℕ → Result Y Fault
first by = exact.first Short by

-- So many items, each in the light of the one before it.
abbrev pub many : {S A : Type 0} → (Option S → Reading A) → (A → Option S) → ℕ → Option S → Reading (List A)
many item after n s = exact.many item (λ _ a. after a) n s

-- an unsigned number of 32 bits
abbrev pub u32_at : Fault → Reading ℕ
u32_at wide = exact.u32_at Short wide

-- a signed number of 33 bits
abbrev pub s33_at : Reading ℤ
s33_at = exact.signed_at Short BadTable 33

-- so many bytes
abbrev pub split_at : ℕ → Reading (List ℕ)
split_at n = exact.split_at Short n

-- bytes behind their number
abbrev pub string_at : Fault → Reading (List ℕ)
string_at wide = exact.string_at Short wide

-- items behind their number
abbrev pub list_at : {S A : Type 0} → (Option S → Reading A) → (A → Option S) → Reading (List A)
list_at item after = exact.list_at Short BadTable item (λ _ a. after a) None
