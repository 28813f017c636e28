-- The types of the functions of `ic0`: IC interface specification, section Overview of imports.
use Rattle.std.specs.Prelude.{List, [], ◌∷◌, map}
use Rattle.wasm_tree.specs.declared.types.ValueType.TheVariants.{I32, I64}
use Rattle.wasm_tree.specs.declared.types.FunctionType.{FunctionType}
use Rattle.wasm_tree.specs.Imports.{function_type, entry_type, size_type, copy_type, bytes_type}
use Rattle.ic0_world.specs.declared.function.Ic0.{Ic0}
use Rattle.ic0_world.specs.declared.function.Ic0.TheVariants as f

abbrev pub type_of_function : Ic0 → FunctionType
type_of_function f.MsgArgDataSize = size_type
type_of_function f.MsgArgDataCopy = copy_type
type_of_function f.MsgCallerSize = size_type
type_of_function f.MsgCallerCopy = copy_type
type_of_function f.MsgReplyDataAppend = bytes_type
type_of_function f.MsgReject = bytes_type
type_of_function f.MsgReply = entry_type
type_of_function f.MsgRejectCode = size_type
type_of_function f.MsgRejectMsgSize = size_type
type_of_function f.MsgRejectMsgCopy = copy_type
type_of_function f.CanisterSelfSize = size_type
type_of_function f.CanisterSelfCopy = copy_type
type_of_function f.CallNew = function_type (I32 ∷ I32 ∷ I32 ∷ I32 ∷ I32 ∷ I32 ∷ I32 ∷ I32 ∷ []) []
type_of_function f.CallOnCleanup = bytes_type
type_of_function f.CallDataAppend = bytes_type
type_of_function f.CallPerform = size_type
type_of_function f.StableSize = function_type [] (I64 ∷ [])
type_of_function f.StableGrow = function_type (I64 ∷ []) (I64 ∷ [])
type_of_function f.StableRead = function_type (I64 ∷ I64 ∷ I64 ∷ []) []
type_of_function f.StableWrite = function_type (I64 ∷ I64 ∷ I64 ∷ []) []
type_of_function f.DebugPrint = bytes_type
type_of_function f.Trap = bytes_type
