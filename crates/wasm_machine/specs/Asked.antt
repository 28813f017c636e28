-- What a host is asked, and what it gives.
use Rattle.std.specs.Prelude.{◌≡◌, ℕ, ◌<◌, ◌^◌, List, [], ◌∷◌, length, Option, Some, None, Result, Ok, Err, slice_get, slice_index, ⊤}
use Rattle.wasm_tree.specs.declared.types.ValueType.{ValueType}
use Rattle.wasm_tree.specs.declared.types.ValueType.TheVariants.{I32, I64}
use Rattle.wasm_tree.specs.declared.types.FunctionType.{FunctionType}
use Rattle.wasm_tree.specs.declared.module_parts.Module.{Module}
use Rattle.wasm_tree.specs.Exec.{type_of}
use Rattle.wasm_tree.specs.Frames.{defined, optional}
use Rattle.wasm_machine.specs.declared.host.HostEnd.{HostEnd}
use Rattle.wasm_machine.specs.declared.host.HostEnd.TheVariants as end
use Rattle.wasm_machine.specs.Hosts.{Reply, Gives, Traps}

-- As many arguments as the function's type has parameters.
pub record Fitting (types : List FunctionType) (function : ℕ) (args : List ℕ) : Type 0 where
  pub type : FunctionType
  pub of_type : slice_get types function ≡ Some type
  pub many : length args ≡ length type.params

-- A result where the type has one, of which an i32 has 32 bits.
abbrev pub FitsKinds : List ValueType → Option ℕ → Type 0
FitsKinds [] None = ⊤
FitsKinds [] (Some value) = ⊥
FitsKinds (kind ∷ kinds) None = ⊥
FitsKinds (I32 ∷ kinds) (Some value) = (kinds ≡ []) × (value < 2 ^ 32)
FitsKinds (I64 ∷ kinds) (Some value) = kinds ≡ []

abbrev pub FitsResult : List FunctionType → ℕ → Option ℕ → Type 0
FitsResult types function result = (type : FunctionType) → slice_get types function ≡ Some type → FitsKinds type.results result

-- The reply holds, where there is one.
abbrev pub IfReplied : Result (Option ℕ) HostEnd → List ℕ → (Reply → Type 0) → Type 0
IfReplied (Ok result) memory P = P (Gives result memory)
IfReplied (Err end.Trap) memory P = P Traps
IfReplied (Err end.Memory) memory P = ⊤

-- The host was made for the imports of the module, which are the functions that it does not define.
abbrev pub IsMadeFor : Module → List FunctionType → Type 0
IsMadeFor m types = (f : ℕ) (t : FunctionType) → type_of m f ≡ Some t → defined m f ≡ None → slice_get types f ≡ Some t

-- What a call of the host has come to: a result, which stands in this cell, or none.
pub record Gave (given : ℕ) (cells : List ℕ) (from : ℕ) (P : Option ℕ → Type 0) : Type 0 where
  pub result : Option ℕ
  pub many : given ≡ length (optional result)
  pub there : (value : ℕ) → result ≡ Some value → slice_index cells from ≡ value
  pub replied : P result

abbrev pub IfAsked : Result ℕ HostEnd → List ℕ → ℕ → (Option ℕ → Type 0) → Type 0 → Type 0
IfAsked (Ok given) cells from P trapped = Gave given cells from P
IfAsked (Err end.Trap) cells from P trapped = trapped
IfAsked (Err end.Memory) cells from P trapped = ⊤
