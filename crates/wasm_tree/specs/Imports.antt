-- The functions of `ic0` that a canister may import, and the names that it exports for the host: IC interface
-- specification, "The IC interface for canisters".
use Rattle.std.specs.Prelude.{◌≡◌, ◌≢◌, ◌≤◌, ◌⊎◌, ℕ, List, [], ◌∷◌, ◌++◌, codes}
use Rattle.std.specs.List.{AllByRecursion}
use Rattle.wasm_tree.specs.declared.types.ValueType.{ValueType}
use Rattle.wasm_tree.specs.declared.types.ValueType.TheVariants.{I32, I64}
use Rattle.wasm_tree.specs.declared.types.FunctionType.{FunctionType}

abbrev pub function_type : List ValueType → List ValueType → FunctionType
function_type params results = record { params = params; results = results }

-- from nothing to nothing
abbrev pub entry_type : FunctionType
entry_type = function_type [] []

abbrev pub size_type : FunctionType
size_type = function_type [] (I32 ∷ [])

-- destination, offset, size
abbrev pub copy_type : FunctionType
copy_type = function_type (I32 ∷ I32 ∷ I32 ∷ []) []

-- source, size
abbrev pub bytes_type : FunctionType
bytes_type = function_type (I32 ∷ I32 ∷ []) []

-- Each function with its type.
abbrev pub ic0 : List (List ℕ × FunctionType)
ic0 = (codes "msg_arg_data_size", size_type)
    ∷ (codes "msg_arg_data_copy", copy_type)
    ∷ (codes "msg_caller_size", size_type)
    ∷ (codes "msg_caller_copy", copy_type)
    ∷ (codes "msg_reply_data_append", bytes_type)
    ∷ (codes "msg_reject", bytes_type)
    ∷ (codes "msg_reply", entry_type)
    ∷ (codes "msg_reject_code", size_type)
    ∷ (codes "msg_reject_msg_size", size_type)
    ∷ (codes "msg_reject_msg_copy", copy_type)
    ∷ (codes "canister_self_size", size_type)
    ∷ (codes "canister_self_copy", copy_type)
    ∷ (codes "call_new", function_type (I32 ∷ I32 ∷ I32 ∷ I32 ∷ I32 ∷ I32 ∷ I32 ∷ I32 ∷ []) [])
    ∷ (codes "call_on_cleanup", bytes_type)
    ∷ (codes "call_data_append", bytes_type)
    ∷ (codes "call_perform", size_type)
    ∷ (codes "stable64_size", function_type [] (I64 ∷ []))
    ∷ (codes "stable64_grow", function_type (I64 ∷ []) (I64 ∷ []))
    ∷ (codes "stable64_read", function_type (I64 ∷ I64 ∷ I64 ∷ []) [])
    ∷ (codes "stable64_write", function_type (I64 ∷ I64 ∷ I64 ∷ []) [])
    ∷ (codes "debug_print", bytes_type)
    ∷ (codes "trap", bytes_type)
    ∷ []

-- A method's name has at least one byte, and its bytes are 33 to 126.
pub record IsMethodName (name : List ℕ) : Type 0 where
  pub some : name ≢ []
  pub visible : AllByRecursion (λ b. (33 ≤ b) × (b ≤ 126)) name

-- The names by which the host enters a canister.
abbrev pub IsEntryName : List ℕ → Type 0
IsEntryName name =
    (name ≡ codes "canister_init") ⊎ (name ≡ codes "canister_pre_upgrade") ⊎ (name ≡ codes "canister_post_upgrade")
    ⊎ ((method : List ℕ) × IsMethodName method × ((name ≡ codes "canister_update " ++ method) ⊎ (name ≡ codes "canister_query " ++ method)))
