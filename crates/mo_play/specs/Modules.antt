-- Which bytes are a module that can be played: WebAssembly Core 1.0, sections 3 and 5.
use Rattle.std.specs.Prelude.{◌≡◌, ⊤, ◌≤◌, ℕ, List, length, Option, Result, Ok, Err}
use Rattle.wasm_tree.specs.declared.module_parts.Module.{Module}
use Rattle.wasm_tree.specs.Binary.{Written}
use Rattle.wasm_tree.specs.Valid.{ValidModule, Fails}
use Rattle.wasm_read.specs.declared.fault.ReadFault.{ReadFault}
use Rattle.wasm_read.specs.declared.fault.ReadFault.TheVariants as read
use Rattle.wasm_read.specs.Sections.{module_at, Answers}
use Rattle.mo_play.specs.declared.judging.ModuleFault.{ModuleFault}
use Rattle.mo_play.specs.declared.judging.ModuleFault.TheVariants.{Read, Valid}
use Rattle.mo_play.specs.declared.judging.JudgeFault.{JudgeFault}
use Rattle.mo_play.specs.declared.judging.JudgeFault.TheVariants.{Bad, Memory}

-- The most bytes of a module, and of a script.
abbrev pub file_limit : ℕ
file_limit = 67108864

-- The bytes spell the module, which is valid.
pub record IsModule (bytes : List ℕ) (m : Module) : Type 0 where
  pub short : length bytes ≤ file_limit
  pub written : Written m bytes
  pub valid : ValidModule m

-- What the fault says of the bytes: the first field that breaks its rule, or a rule that the module breaks. Of more bytes
-- than a module may have it says that, and no more.
abbrev pub IsNamed : List ℕ → ModuleFault → Type 0
IsNamed bytes (Read fault) = (fault ≡ read.Memory → ⊥) × Answers (Err fault) (module_at bytes)
IsNamed bytes (Valid rule) = (length bytes ≤ file_limit) × (m : Module) × Written m bytes × (function : Option ℕ) × Fails m function rule

-- The bytes are no valid module, for this fault.
pub record IsBadModule (bytes : List ℕ) (fault : ModuleFault) : Type 0 where
  pub none : (m : Module) → IsModule bytes m → ⊥
  pub named : IsNamed bytes fault

abbrev pub IsJudged : List ℕ → JudgeFault → Type 0
IsJudged bytes (Bad fault) = IsBadModule bytes fault
IsJudged bytes Memory = ⊤

-- What is answered of a module.
abbrev pub Judged : Module → Result Module JudgeFault → Type 0
Judged tree (Ok m) = (m ≡ tree) × ValidModule tree
Judged tree (Err (Bad (Read fault))) = ⊥
Judged tree (Err (Bad (Valid rule))) = (ValidModule tree → ⊥) × (function : Option ℕ) × Fails tree function rule
Judged tree (Err Memory) = ⊤

abbrev pub unread_fault : ReadFault → JudgeFault
unread_fault read.Memory = Memory
unread_fault read.TooLarge = Bad (Read read.TooLarge)
unread_fault read.NotWasm = Bad (Read read.NotWasm)
unread_fault read.Malformed = Bad (Read read.Malformed)
unread_fault read.Floats = Bad (Read read.Floats)
