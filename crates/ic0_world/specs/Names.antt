-- The functions of `ic0` by their names: IC interface specification, section Overview of imports.
use Rattle.std.specs.Prelude.{List, ℕ, [], ◌∷◌, codes, Option}
use Rattle.std.specs.List.{find}
use Rattle.std.specs.Str.{bytes_eq}
use Rattle.ic0_world.specs.declared.function.Ic0.{Ic0}
use Rattle.ic0_world.specs.declared.function.Ic0.TheVariants as f

abbrev pub function_name : Ic0 → List ℕ
function_name f.MsgArgDataSize = codes "msg_arg_data_size"
function_name f.MsgArgDataCopy = codes "msg_arg_data_copy"
function_name f.MsgCallerSize = codes "msg_caller_size"
function_name f.MsgCallerCopy = codes "msg_caller_copy"
function_name f.MsgReplyDataAppend = codes "msg_reply_data_append"
function_name f.MsgReject = codes "msg_reject"
function_name f.MsgReply = codes "msg_reply"
function_name f.MsgRejectCode = codes "msg_reject_code"
function_name f.MsgRejectMsgSize = codes "msg_reject_msg_size"
function_name f.MsgRejectMsgCopy = codes "msg_reject_msg_copy"
function_name f.CanisterSelfSize = codes "canister_self_size"
function_name f.CanisterSelfCopy = codes "canister_self_copy"
function_name f.CallNew = codes "call_new"
function_name f.CallOnCleanup = codes "call_on_cleanup"
function_name f.CallDataAppend = codes "call_data_append"
function_name f.CallPerform = codes "call_perform"
function_name f.StableSize = codes "stable64_size"
function_name f.StableGrow = codes "stable64_grow"
function_name f.StableRead = codes "stable64_read"
function_name f.StableWrite = codes "stable64_write"
function_name f.DebugPrint = codes "debug_print"
function_name f.Trap = codes "trap"

-- every function, once
unfoldable pub functions : List Ic0
functions =
    f.MsgArgDataSize ∷ f.MsgArgDataCopy ∷ f.MsgCallerSize ∷ f.MsgCallerCopy ∷ f.MsgReplyDataAppend ∷ f.MsgReject ∷ f.MsgReply ∷ f.MsgRejectCode ∷ f.MsgRejectMsgSize ∷ f.MsgRejectMsgCopy ∷ f.CanisterSelfSize ∷ f.CanisterSelfCopy ∷ f.CallNew ∷ f.CallOnCleanup ∷ f.CallDataAppend ∷ f.CallPerform ∷ f.StableSize ∷ f.StableGrow ∷ f.StableRead ∷ f.StableWrite ∷ f.DebugPrint ∷ f.Trap ∷ []

-- the function with this name
unfoldable pub function_of : List ℕ → Option Ic0
function_of name = find (λ function. bytes_eq (function_name function) name) functions
