-- Where each function of `ic0` is allowed: IC interface specification, section Overview of imports, the column of each function.
use Rattle.std.specs.Prelude.{Bool, true, false}
use Rattle.ic0_world.specs.declared.function.Ic0.{Ic0}
use Rattle.ic0_world.specs.declared.function.Ic0.TheVariants as f
use Rattle.ic0_world.specs.declared.kind.ExecutionKind.{ExecutionKind}
use Rattle.ic0_world.specs.declared.kind.ExecutionKind.TheVariants as k

-- init, update, query, reply and post-upgrade
abbrev pub takes_argument : ExecutionKind → Bool
takes_argument k.Start = false
takes_argument k.Init = true
takes_argument k.Update = true
takes_argument k.Query = true
takes_argument k.Reply = true
takes_argument k.Reject = false
takes_argument k.Cleanup = false
takes_argument k.PreUpgrade = false
takes_argument k.PostUpgrade = true

-- all but start
abbrev pub has_caller : ExecutionKind → Bool
has_caller k.Start = false
has_caller k.Init = true
has_caller k.Update = true
has_caller k.Query = true
has_caller k.Reply = true
has_caller k.Reject = true
has_caller k.Cleanup = true
has_caller k.PreUpgrade = true
has_caller k.PostUpgrade = true

-- update, query, reply and reject
abbrev pub answers : ExecutionKind → Bool
answers k.Start = false
answers k.Init = false
answers k.Update = true
answers k.Query = true
answers k.Reply = true
answers k.Reject = true
answers k.Cleanup = false
answers k.PreUpgrade = false
answers k.PostUpgrade = false

-- reply and reject
abbrev pub is_callback : ExecutionKind → Bool
is_callback k.Start = false
is_callback k.Init = false
is_callback k.Update = false
is_callback k.Query = false
is_callback k.Reply = true
is_callback k.Reject = true
is_callback k.Cleanup = false
is_callback k.PreUpgrade = false
is_callback k.PostUpgrade = false

abbrev pub is_reject : ExecutionKind → Bool
is_reject k.Start = false
is_reject k.Init = false
is_reject k.Update = false
is_reject k.Query = false
is_reject k.Reply = false
is_reject k.Reject = true
is_reject k.Cleanup = false
is_reject k.PreUpgrade = false
is_reject k.PostUpgrade = false

-- update, reply and reject
abbrev pub makes_calls : ExecutionKind → Bool
makes_calls k.Start = false
makes_calls k.Init = false
makes_calls k.Update = true
makes_calls k.Query = false
makes_calls k.Reply = true
makes_calls k.Reject = true
makes_calls k.Cleanup = false
makes_calls k.PreUpgrade = false
makes_calls k.PostUpgrade = false

abbrev pub is_allowed : ExecutionKind → Ic0 → Bool
is_allowed kind f.MsgArgDataSize = takes_argument kind
is_allowed kind f.MsgArgDataCopy = takes_argument kind
is_allowed kind f.MsgCallerSize = has_caller kind
is_allowed kind f.MsgCallerCopy = has_caller kind
is_allowed kind f.MsgReplyDataAppend = answers kind
is_allowed kind f.MsgReject = answers kind
is_allowed kind f.MsgReply = answers kind
is_allowed kind f.MsgRejectCode = is_callback kind
is_allowed kind f.MsgRejectMsgSize = is_reject kind
is_allowed kind f.MsgRejectMsgCopy = is_reject kind
is_allowed kind f.CanisterSelfSize = has_caller kind
is_allowed kind f.CanisterSelfCopy = has_caller kind
is_allowed kind f.CallNew = makes_calls kind
is_allowed kind f.CallOnCleanup = makes_calls kind
is_allowed kind f.CallDataAppend = makes_calls kind
is_allowed kind f.CallPerform = makes_calls kind
is_allowed kind f.StableSize = true
is_allowed kind f.StableGrow = true
is_allowed kind f.StableRead = true
is_allowed kind f.StableWrite = true
is_allowed kind f.DebugPrint = true
is_allowed kind f.Trap = true
