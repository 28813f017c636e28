-- The module of constant queries. Its data are the replies, one after another, and each function replies with its own
-- part of them: WebAssembly Core 1.0, section 2.5, and IC interface specification, section Responding.
use Rattle.std.specs.Prelude.{◌≡◌, ℕ, ◌+◌, List, [], ◌∷◌, ◌++◌, length, None, codes, pos}
use Rattle.std.specs.List.{AllZip, concat}
use Rattle.query_source.specs.declared.query.Method.{Method}
use Rattle.wasm_tree.specs.declared.types.FunctionType.{FunctionType}
use Rattle.wasm_tree.specs.declared.types.Limits.{Limits}
use Rattle.wasm_tree.specs.declared.op.Plain.TheVariants as plain
use Rattle.wasm_tree.specs.declared.op.Op.{Op}
use Rattle.wasm_tree.specs.declared.op.Op.TheVariants as op
use Rattle.wasm_tree.specs.declared.module_parts.ImportKind.TheVariants as «import»
use Rattle.wasm_tree.specs.declared.module_parts.Import.{Import}
use Rattle.wasm_tree.specs.declared.module_parts.Function.{Function}
use Rattle.wasm_tree.specs.declared.module_parts.ExportKind.TheVariants as export
use Rattle.wasm_tree.specs.declared.module_parts.Export.{Export}
use Rattle.wasm_tree.specs.declared.module_parts.DataSegment.{DataSegment}
use Rattle.wasm_tree.specs.declared.module_parts.Module.{Module}
use Rattle.wasm_tree.specs.Imports.{bytes_type, entry_type}
use Rattle.query_module.specs.Message.{empty_message, IsNatMessage}

-- What the host's two functions take, and nothing: types 0 and 1.
abbrev pub query_types : List FunctionType
query_types = bytes_type ∷ entry_type ∷ []

-- a function of `ic0`, whose type has this index
abbrev pub ic0_import : List ℕ → ℕ → Import
ic0_import name signature = record { «module» = codes "ic0"; name = name; kind = «import».Function signature }

-- Functions 0 and 1.
abbrev pub query_imports : List Import
query_imports = ic0_import (codes "msg_reply_data_append") 0 ∷ ic0_import (codes "msg_reply") 1 ∷ []

-- Appends this part of the memory to the reply, and replies.
abbrev pub query_body : ℕ → ℕ → List Op
query_body offset size = op.Plain (plain.I32Const (pos offset)) ∷ op.Plain (plain.I32Const (pos size)) ∷ op.Call 0 ∷ op.Call 1 ∷ []

abbrev pub query_function : ℕ → ℕ → Function
query_function offset size = record { signature = 1; locals = []; body = query_body offset size }

-- The functions of replies that stand in the memory from the offset on.
abbrev pub functions_from : ℕ → List (List ℕ) → List Function
functions_from offset [] = []
functions_from offset (r ∷ rs) = query_function offset (length r) ∷ functions_from (offset + length r) rs

abbrev pub export_name : List ℕ → List ℕ
export_name method = codes "canister_query " ++ method

abbrev pub query_export : List ℕ → ℕ → Export
query_export method index = record { name = export_name method; kind = export.Function index }

-- The exports of methods whose functions have the indices from this one on.
abbrev pub exports_from : ℕ → List Method → List Export
exports_from index [] = []
exports_from index (m ∷ ms) = query_export m.name index ∷ exports_from (index + 1) ms

-- `__resume`, the update method that each actor has, and the methods. Its function is the first of the module's own.
abbrev pub resume_export : Export
resume_export = record { name = codes "canister_update __resume"; kind = export.Function 2 }

abbrev pub query_exports : List Method → List Export
query_exports methods = resume_export ∷ exports_from 3 methods

-- one page, which may grow
abbrev pub query_memory : Limits
query_memory = record { min = 1; max = None }

-- Bytes from offset 0 on.
abbrev pub query_data : List ℕ → DataSegment
query_data bytes = record { memory = 0; offset = op.Plain (plain.I32Const (pos 0)) ∷ []; bytes = bytes }

-- The module of these functions, exports and bytes.
abbrev pub tree_of_parts : List Function → List Export → List ℕ → Module
tree_of_parts functions exports bytes = record {
  types = query_types;
  imports = query_imports;
  functions = functions;
  tables = [];
  memories = query_memory ∷ [];
  globals = [];
  exports = exports;
  start = None;
  elements = [];
  segments = query_data bytes ∷ [];
}

-- One reply for each method, in turn: its number as a message.
abbrev pub AreNumbers : List Method → List (List ℕ) → Type 0
AreNumbers methods replies = AllZip (λ m reply. IsNatMessage m.number reply) methods replies

-- The reply of `__resume`, and those of the methods.
pub record AreReplies (methods : List Method) (replies : List (List ℕ)) : Type 0 where
  pub numbers : List (List ℕ)
  pub are_numbers : AreNumbers methods numbers
  pub replies_are : replies ≡ empty_message ∷ numbers

-- The module of the methods and their replies.
abbrev pub query_tree : List Method → List (List ℕ) → Module
query_tree methods replies = tree_of_parts (functions_from 0 replies) (query_exports methods) (concat replies)

-- The module of the methods and of replies of theirs.
pub record IsQueryTree (methods : List Method) (tree : Module) : Type 0 where
  pub replies : List (List ℕ)
  pub are_replies : AreReplies methods replies
  pub tree_is : tree ≡ query_tree methods replies
