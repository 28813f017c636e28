-- What contracts see of the memories of a canister.
use Rattle.std.specs.Prelude.{◌≡◌, ℕ, List, [], Bool, true, false, Option, Some, None}
use Rattle.page_store.specs.Pages.{LinearMemory}
use Rattle.wasm_tree.specs.Load.{Instance}
use Rattle.wasm_instance.specs.declared.instance.Limits.{Limits}

-- Memory, globals and table of an instance, and the bytes of stable memory.
pub record Contents : Type 0 where
  pub instance : Instance
  pub stable : List ℕ

pub record View : Type 0 where
  pub limits : Limits
  pub standing : Contents
  -- as the last commit kept it
  pub kept : Contents
  -- whether stable memory was lost in an execution, for want of memory: then nothing that stands counts
  pub is_lost : Bool

-- What stands is what is kept.
abbrev pub IsSettled : View → Type 0
IsSettled v = v.is_lost ≡ false → v.standing ≡ v.kept

abbrev pub bytes_of : Option LinearMemory → List ℕ
bytes_of None = []
bytes_of (Some stable) = stable.bytes

abbrev pub is_none : Option LinearMemory → Bool
is_none None = true
is_none (Some stable) = false

abbrev pub limit_or : ℕ → Option LinearMemory → ℕ
limit_or limit None = limit
limit_or limit (Some stable) = stable.limit
