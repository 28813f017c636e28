-- No function of `ic0` changes the limit of stable memory, or opens more than 500 calls.
use Rattle.std.proofs.Common.{◌≡◌, ◌≤◌, ◌<◌, ◌+◌, ◌-◌, ◌^◌, nat_le, ℕ, Bool, true, false, cond, List, [], ◌∷◌, ◌++◌, length, Option, Some, None, nat_lt, refl, arith, length-append}
use Rattle.std.proofs.lemmas.Bool.{ltb-true}
use Rattle.std.specs.Prelude.{◌&&◌, not}
use Rattle.std.specs.Str.{is_utf8}
use Rattle.page_store.specs.Pages.{page_count, zero_pages}
use Rattle.ic0_world.specs.declared.function.Ic0.{Ic0}
use Rattle.ic0_world.specs.declared.function.Ic0.TheVariants as f
use Rattle.ic0_world.specs.declared.world.Callback.{Callback}
use Rattle.ic0_world.specs.declared.world.OutgoingCall.{OutgoingCall}
use Rattle.ic0_world.specs.declared.world.Answer.{Answer}
use Rattle.ic0_world.specs.declared.world.Answer.TheVariants.{Replied, Rejected}
use Rattle.ic0_world.specs.declared.world.World.{World}
use Rattle.ic0_world.specs.Allowed.{is_allowed}
use Rattle.ic0_world.specs.Act as act
use Rattle.ic0_world.specs.Act.{Did, Gives, Traps, call}
use Rattle.wasm_machine.specs.Told.{world_of}
use Rattle.canister_host.specs.Entries.{answer_of, call_of}
use Rattle.canister_execution.specs.Executed.{KeepsLimits}

abbrev pub Keeps : World → Did → Type 0
Keeps w d = KeepsLimits w (world_of (answer_of d))

pub same_limits : (w : World) → KeepsLimits w w
same_limits w = record { limit = refl; open_before = refl; few = λ h. h }

chosen : (b : Bool) (w : World) (d e : Did) → Keeps w d → Keeps w e → Keeps w (cond b d e)
chosen true w d e first second = first
chosen false w d e first second = second

misused : (w : World) → Keeps w (act.misuse w)
misused w = record { limit = refl; open_before = refl; few = λ h. h }

ranged : (place size : ℕ) (memory : List ℕ) (w : World) (next : List ℕ → Did) → ((bytes : List ℕ) → Keeps w (next bytes)) → Keeps w (act.with_range place size memory w next)
ranged place size memory w next n = chosen (act.is_inside place size memory) w (next (act.range place size memory)) (act.misuse w) (n (act.range place size memory)) (misused w)

copied : (destination offset size : ℕ) (bytes memory : List ℕ) (w : World) → Keeps w (act.copies destination offset size bytes memory w)
copied destination offset size bytes memory w =
    chosen (act.is_inside destination size memory && act.is_inside offset size bytes) w _ (act.misuse w) (record { limit = refl; open_before = refl; few = λ h. h }) (misused w)

answered : (a : Answer) (memory : List ℕ) (w : World) → Keeps w (act.answers a memory w)
answered a memory w = chosen (act.is_answered w) w (act.misuse w) _ (misused w) (record { limit = refl; open_before = refl; few = λ h. h })

replied : (more memory : List ℕ) (w : World) → Keeps w (act.append_reply more memory w)
replied more memory w =
    chosen (not (act.is_answered w) && nat_le (length w.reply_data + length more) act.longest_message) w (Gives None memory (record w { reply_data = w.reply_data ++ more })) (act.misuse w) (record { limit = refl; open_before = refl; few = λ h. h }) (misused w)

rejected : (text memory : List ℕ) (w : World) → Keeps w (act.rejects text memory w)
rejected text memory w =
    chosen (is_utf8 text && nat_le (length text) act.longest_message) w (act.answers (Rejected act.canister_reject text) memory w) (act.misuse w) (answered (Rejected act.canister_reject text) memory w) (misused w)

begun : (callee method : List ℕ) (a b : Callback) (memory : List ℕ) (w : World) → Keeps w (act.new_call callee method a b memory w)
begun callee method a b memory w =
    chosen (nat_le (length callee) act.longest_principal && act.is_method method) w
    (Gives None memory (record w { prepared = Some (record { callee = callee; method = method; argument = []; on_reply = a; on_reject = b; on_cleanup = None }) }))
    (act.misuse w) (record { limit = refl; open_before = refl; few = λ h. h }) (misused w)

with_call_kept : (prepared : Option OutgoingCall) (w : World) (next : OutgoingCall → Did) → ((c : OutgoingCall) → Keeps w (next c)) → Keeps w (act.with_call prepared w next)
with_call_kept None w next n = misused w
with_call_kept (Some c) w next n = n c

first_set : (before : Option Callback) (callback : Callback) (c : OutgoingCall) (memory : List ℕ) (w : World) → Keeps w (act.set_first before callback c memory w)
first_set None callback c memory w = record { limit = refl; open_before = refl; few = λ h. h }
first_set (Some before) callback c memory w = misused w

argued : (more : List ℕ) (c : OutgoingCall) (memory : List ℕ) (w : World) → Keeps w (act.append_argument more c memory w)
argued more c memory w =
    chosen (nat_le (length c.argument + length more) act.longest_message) w (Gives None memory (record w { prepared = Some (record c { argument = c.argument ++ more }) })) (act.misuse w) (record { limit = refl; open_before = refl; few = λ h. h }) (misused w)

one_more : (before : ℕ) (calls : List OutgoingCall) (c : OutgoingCall) → nat_lt (before + length calls) 500 ≡ true → length (calls ++ c ∷ []) + before ≤ 500
one_more before calls c h = let below : before + length calls < 500 = ltb-true (before + length calls) 500 h in rw length-append (omega arith)

made_or_refused : (b : Bool) (c : OutgoingCall) (memory : List ℕ) (w : World) → nat_lt (w.open_before + length w.performed) 500 ≡ b
    → Keeps w (cond b (Gives (Some 0) memory (record w { prepared = None; performed = w.performed ++ c ∷ [] })) (Gives (Some 2) memory (record w { prepared = None })))
made_or_refused true c memory w h = record { limit = refl; open_before = refl; few = λ few. one_more w.open_before w.performed c h }
made_or_refused false c memory w h = record { limit = refl; open_before = refl; few = λ h. h }

performed : (c : OutgoingCall) (memory : List ℕ) (w : World) → Keeps w (act.perform c memory w)
performed c memory w = made_or_refused (nat_lt (w.open_before + length w.performed) 500) c memory w refl

grown : (by : ℕ) (memory : List ℕ) (w : World) → Keeps w (act.grow_stable by memory w)
grown by memory w =
    chosen (nat_le (page_count w.stable + by) w.stable.limit) w
    (Gives (Some (page_count w.stable)) memory (record w { stable = record w.stable { bytes = w.stable.bytes ++ zero_pages by } }))
    (Gives (Some (2 ^ 64 - 1)) memory (record w { stable_refused = true })) (record { limit = refl; open_before = refl; few = λ h. h }) (record { limit = refl; open_before = refl; few = λ h. h })

written : (offset : ℕ) (these memory : List ℕ) (w : World) → Keeps w (act.write_stable offset these memory w)
written offset these memory w =
    chosen (act.is_inside offset (length these) w.stable.bytes) w (Gives None memory (record w { stable = record w.stable { bytes = act.put offset these w.stable.bytes } })) (act.misuse w) (record { limit = refl; open_before = refl; few = λ h. h }) (misused w)

kept_by : (function : Ic0) (args memory : List ℕ) (w : World) → Keeps w (act.act function args memory w)
kept_by f.MsgArgDataSize args memory w = record { limit = refl; open_before = refl; few = λ h. h }
kept_by f.MsgArgDataCopy args memory w = copied _ _ _ w.argument memory w
kept_by f.MsgCallerSize args memory w = record { limit = refl; open_before = refl; few = λ h. h }
kept_by f.MsgCallerCopy args memory w = copied _ _ _ w.caller memory w
kept_by f.MsgReplyDataAppend args memory w = ranged _ _ memory w (λ more. act.append_reply more memory w) (λ more. replied more memory w)
kept_by f.MsgReject args memory w = ranged _ _ memory w (λ text. act.rejects text memory w) (λ text. rejected text memory w)
kept_by f.MsgReply args memory w = answered (Replied w.reply_data) memory w
kept_by f.MsgRejectCode args memory w = record { limit = refl; open_before = refl; few = λ h. h }
kept_by f.MsgRejectMsgSize args memory w = record { limit = refl; open_before = refl; few = λ h. h }
kept_by f.MsgRejectMsgCopy args memory w = copied _ _ _ w.reject_text memory w
kept_by f.CanisterSelfSize args memory w = record { limit = refl; open_before = refl; few = λ h. h }
kept_by f.CanisterSelfCopy args memory w = copied _ _ _ w.own memory w
kept_by f.CallNew args memory w =
    let on_reply : Callback = act.callback (act.at32 args 4) (act.at32 args 5) in
    let on_reject : Callback = act.callback (act.at32 args 6) (act.at32 args 7) in
    ranged _ _ memory w
    (λ callee. act.with_range (act.at32 args 2) (act.at32 args 3) memory w (λ method. act.new_call callee method on_reply on_reject memory w))
    (λ callee. ranged (act.at32 args 2) (act.at32 args 3) memory w (λ method. act.new_call callee method on_reply on_reject memory w) (λ method. begun callee method on_reply on_reject memory w))
kept_by f.CallOnCleanup args memory w =
    let callback : Callback = act.callback (act.at32 args 0) (act.at32 args 1) in
    with_call_kept w.prepared w (λ c. act.set_cleanup callback c memory w) (λ c. first_set c.on_cleanup callback c memory w)
kept_by f.CallDataAppend args memory w =
    ranged _ _ memory w
    (λ more. act.with_prepared w (λ c. act.append_argument more c memory w))
    (λ more. with_call_kept w.prepared w (λ c. act.append_argument more c memory w) (λ c. argued more c memory w))
kept_by f.CallPerform args memory w = with_call_kept w.prepared w (λ c. act.perform c memory w) (λ c. performed c memory w)
kept_by f.StableSize args memory w = record { limit = refl; open_before = refl; few = λ h. h }
kept_by f.StableGrow args memory w = grown _ memory w
kept_by f.StableRead args memory w = copied _ _ _ w.stable.bytes memory w
kept_by f.StableWrite args memory w = ranged _ _ memory w (λ these. act.write_stable (act.at64 args 0) these memory w) (λ these. written (act.at64 args 0) these memory w)
kept_by f.DebugPrint args memory w = ranged _ _ memory w (λ text. Gives None memory (record w { prints = w.prints ++ text ∷ [] })) (λ text. record { limit = refl; open_before = refl; few = λ h. h })
kept_by f.Trap args memory w = ranged _ _ memory w (λ text. act.trapped_with text w) (λ text. record { limit = refl; open_before = refl; few = λ h. h })

-- So does the host's answer to a call.
pub keeps_limits : (function : Option Ic0) (args memory : List ℕ) (w : World) → Keeps w (call_of function args memory w)
keeps_limits None args memory w = misused w
keeps_limits (Some function) args memory w = chosen (is_allowed w.kind function) w (act.act function args memory w) (act.misuse w) (kept_by function args memory w) (misused w)
