-- The functions of the interface by their places in it.
use Rattle.std.proofs.Common.{◌≡◌, ℕ, zero, suc, List, [], ◌∷◌, map, Some, slice_get, refl, ap, ◌∙◌}
use Rattle.wasm_tree.specs.Imports.{ic0}
use Rattle.ic0_world.specs.declared.function.Ic0.{Ic0}
use Rattle.ic0_world.specs.declared.function.Ic0.TheVariants as f
use Rattle.ic0_world.specs.Names.{function_name, functions, function_of}
use Rattle.canister_host.specs.Entries.{then_named, answer_of, call_of}
use Rattle.module_laws.specs.Laws.{HostFunctionsHaveNumbers}

named : (function : Ic0) → function_of (function_name function) ≡ Some function
unfolding function_of functions
named f.MsgArgDataSize = refl
named f.MsgArgDataCopy = refl
named f.MsgCallerSize = refl
named f.MsgCallerCopy = refl
named f.MsgReplyDataAppend = refl
named f.MsgReject = refl
named f.MsgReply = refl
named f.MsgRejectCode = refl
named f.MsgRejectMsgSize = refl
named f.MsgRejectMsgCopy = refl
named f.CanisterSelfSize = refl
named f.CanisterSelfCopy = refl
named f.CallNew = refl
named f.CallOnCleanup = refl
named f.CallDataAppend = refl
named f.CallPerform = refl
named f.StableSize = refl
named f.StableGrow = refl
named f.StableRead = refl
named f.StableWrite = refl
named f.DebugPrint = refl
named f.Trap = refl

at_place : (these : List Ic0) (k : ℕ) → then_named (slice_get (map function_name these) k) ≡ slice_get these k
at_place [] k = refl
at_place (function ∷ these) zero = named function
at_place (function ∷ these) (suc k) = at_place these k

names_are : map (λ i. i.0) ic0 ≡ map function_name functions
unfolding functions
names_are = refl

pub numbered : HostFunctionsHaveNumbers
numbered m same f args memory w = ap (λ (names : List (List ℕ)). answer_of (call_of (then_named (slice_get names f)) args memory w)) (same ∙ names_are) ∙ ap (λ o. answer_of (call_of o args memory w)) (at_place functions f)
