-- What each function of `ic0` does: IC interface specification, section The IC interface for canisters.
use Rattle.std.specs.Prelude.{⊤, ◌≡◌, Result, Ok, Err, ℕ, ◌+◌, ◌-◌, ◌%◌, ◌^◌, List, [], ◌∷◌, ◌++◌, length, take, drop, slice_index, Option, Some, None, Bool, true, false, not, ◌&&◌, cond, nat_le, nat_lt, codes}
use Rattle.std.specs.List.{list_all}
use Rattle.std.specs.Str.{is_utf8}
use Rattle.ic0_world.specs.declared.function.Ic0.{Ic0}
use Rattle.ic0_world.specs.declared.function.Ic0.TheVariants as f
use Rattle.ic0_world.specs.Allowed.{is_allowed}
use Rattle.page_store.specs.Pages.{page_count, zero_pages}
use Rattle.ic0_world.specs.declared.world.Callback.{Callback}
use Rattle.ic0_world.specs.declared.world.OutgoingCall.{OutgoingCall}
use Rattle.ic0_world.specs.declared.world.Answer.{Answer}
use Rattle.ic0_world.specs.declared.world.Answer.TheVariants.{Replied, Rejected}
use Rattle.ic0_world.specs.declared.world.World.{World}
use Rattle.ic0_world.specs.declared.call.CallEnd.{CallEnd}
use Rattle.ic0_world.specs.declared.call.CallEnd.TheVariants as end

-- A function gives a result, if its type has one, a memory and a world, or it traps.
pub data Did : Type 0 where
  Gives : Option ℕ → List ℕ → World → Did
  Traps : World → Did

-- Most bytes of an argument, of a reply and of a reject's text; most bytes of a principal; most open calls.
abbrev pub longest_message : ℕ
longest_message = 2097152

abbrev pub longest_principal : ℕ
longest_principal = 29

abbrev pub most_open_calls : ℕ
most_open_calls = 500

-- A call of `msg_reject` rejects with this code, that of an explicit rejection.
abbrev pub canister_reject : ℕ
canister_reject = 4

abbrev pub trapped_with : List ℕ → World → Did
trapped_with text w = Traps (record w { trap_text = text })

-- What the interface forbids ends the execution.
abbrev pub misuse : World → Did
misuse w = trapped_with (codes "ic0 misuse") w

-- A range that begins at the end and has size 0 lies inside.
abbrev pub is_inside : ℕ → ℕ → List ℕ → Bool
is_inside place size bytes = nat_le (place + size) (length bytes)

abbrev pub range : ℕ → ℕ → List ℕ → List ℕ
range place size bytes = take size (drop place bytes)

-- The bytes with these in place of as many of its own.
abbrev pub put : ℕ → List ℕ → List ℕ → List ℕ
put place these bytes = take place bytes ++ these ++ drop (place + length these) bytes

-- With a range of the memory.
abbrev pub with_range : ℕ → ℕ → List ℕ → World → (List ℕ → Did) → Did
with_range source size memory w next = cond (is_inside source size memory) (next (range source size memory)) (misuse w)

-- Copies a range of the data into the memory.
abbrev pub copies : ℕ → ℕ → ℕ → List ℕ → List ℕ → World → Did
copies destination offset size bytes memory w =
    cond (is_inside destination size memory && is_inside offset size bytes)
    (Gives None (put destination (range offset size bytes) memory) w)
    (misuse w)

-- Whether the incoming call is answered, before or in this execution.
abbrev pub is_answered : World → Bool
is_answered w = cond w.answered true (given w.answer)
  where
    given : Option Answer → Bool
    given None = false
    given (Some a) = true

abbrev pub answers : Answer → List ℕ → World → Did
answers a memory w = cond (is_answered w) (misuse w) (Gives None memory (record w { answer = Some a }))

-- Puts more behind the reply data.
abbrev pub append_reply : List ℕ → List ℕ → World → Did
append_reply more memory w =
    cond (not (is_answered w) && nat_le (length w.reply_data + length more) longest_message)
    (Gives None memory (record w { reply_data = w.reply_data ++ more }))
    (misuse w)

abbrev pub rejects : List ℕ → List ℕ → World → Did
rejects text memory w = cond (is_utf8 text && nat_le (length text) longest_message) (answers (Rejected canister_reject text) memory w) (misuse w)

abbrev pub is_visible : ℕ → Bool
is_visible b = nat_le 33 b && nat_le b 126

abbrev pub is_method : List ℕ → Bool
is_method name = nat_lt 0 (length name) && list_all is_visible name

-- Begins a call, in place of one that was not performed.
abbrev pub new_call : List ℕ → List ℕ → Callback → Callback → List ℕ → World → Did
new_call callee method on_reply on_reject memory w =
    cond (nat_le (length callee) longest_principal && is_method method)
    (Gives None memory (record w { prepared = Some (record { callee = callee; method = method; argument = []; on_reply = on_reply; on_reject = on_reject; on_cleanup = None }) }))
    (misuse w)

abbrev pub with_call : Option OutgoingCall → World → (OutgoingCall → Did) → Did
with_call None w next = misuse w
with_call (Some call) w next = next call

abbrev pub with_prepared : World → (OutgoingCall → Did) → Did
with_prepared w next = with_call w.prepared w next

-- A call has one cleanup.
abbrev pub set_first : Option Callback → Callback → OutgoingCall → List ℕ → World → Did
set_first None callback call memory w = Gives None memory (record w { prepared = Some (record call { on_cleanup = Some callback }) })
set_first (Some before) callback call memory w = misuse w

abbrev pub set_cleanup : Callback → OutgoingCall → List ℕ → World → Did
set_cleanup callback call memory w = set_first call.on_cleanup callback call memory w

abbrev pub append_argument : List ℕ → OutgoingCall → List ℕ → World → Did
append_argument more call memory w =
    cond (nat_le (length call.argument + length more) longest_message)
    (Gives None memory (record w { prepared = Some (record call { argument = call.argument ++ more }) }))
    (misuse w)

-- The call is made, or refused where as many calls as may be are open; it is no longer prepared.
abbrev pub perform : OutgoingCall → List ℕ → World → Did
perform call memory w =
    cond (nat_lt (w.open_before + length w.performed) most_open_calls)
    (Gives (Some 0) memory (record w { prepared = None; performed = w.performed ++ call ∷ [] }))
    (Gives (Some 2) memory (record w { prepared = None }))

-- Stable memory grows exactly up to its limit; else the answer is -1.
abbrev pub grow_stable : ℕ → List ℕ → World → Did
grow_stable by memory w =
    cond (nat_le (page_count w.stable + by) w.stable.limit)
    (Gives (Some (page_count w.stable)) memory (record w { stable = record w.stable { bytes = w.stable.bytes ++ zero_pages by } }))
    (Gives (Some (2 ^ 64 - 1)) memory (record w { stable_refused = true }))

abbrev pub write_stable : ℕ → List ℕ → List ℕ → World → Did
write_stable offset these memory w =
    cond (is_inside offset (length these) w.stable.bytes) (Gives None memory (record w { stable = record w.stable { bytes = put offset these w.stable.bytes } })) (misuse w)

-- The argument at this place, as an i32 and as an i64.
abbrev pub at32 : List ℕ → ℕ → ℕ
at32 args place = slice_index args place % 2 ^ 32

abbrev pub at64 : List ℕ → ℕ → ℕ
at64 args place = slice_index args place % 2 ^ 64

-- A size or a code as an i32.
abbrev pub as_i32 : ℕ → Option ℕ
as_i32 n = Some (n % 2 ^ 32)

abbrev pub callback : ℕ → ℕ → Callback
callback function environment = record { function = function; environment = environment }

-- A function that is allowed, with its arguments in order.
abbrev pub act : Ic0 → List ℕ → List ℕ → World → Did
act f.MsgArgDataSize args memory w = Gives (as_i32 (length w.argument)) memory w
act f.MsgArgDataCopy args memory w = copies (at32 args 0) (at32 args 1) (at32 args 2) w.argument memory w
act f.MsgCallerSize args memory w = Gives (as_i32 (length w.caller)) memory w
act f.MsgCallerCopy args memory w = copies (at32 args 0) (at32 args 1) (at32 args 2) w.caller memory w
act f.MsgReplyDataAppend args memory w = with_range (at32 args 0) (at32 args 1) memory w (λ more. append_reply more memory w)
act f.MsgReject args memory w = with_range (at32 args 0) (at32 args 1) memory w (λ text. rejects text memory w)
act f.MsgReply args memory w = answers (Replied w.reply_data) memory w
act f.MsgRejectCode args memory w = Gives (as_i32 w.reject_code) memory w
act f.MsgRejectMsgSize args memory w = Gives (as_i32 (length w.reject_text)) memory w
act f.MsgRejectMsgCopy args memory w = copies (at32 args 0) (at32 args 1) (at32 args 2) w.reject_text memory w
act f.CanisterSelfSize args memory w = Gives (as_i32 (length w.own)) memory w
act f.CanisterSelfCopy args memory w = copies (at32 args 0) (at32 args 1) (at32 args 2) w.own memory w
act f.CallNew args memory w =
    with_range (at32 args 0) (at32 args 1) memory w (λ callee. with_range (at32 args 2) (at32 args 3) memory w (λ method.
    new_call callee method (callback (at32 args 4) (at32 args 5)) (callback (at32 args 6) (at32 args 7)) memory w))
act f.CallOnCleanup args memory w = with_prepared w (λ call. set_cleanup (callback (at32 args 0) (at32 args 1)) call memory w)
act f.CallDataAppend args memory w =
    with_range (at32 args 0) (at32 args 1) memory w (λ more. with_prepared w (λ call. append_argument more call memory w))
act f.CallPerform args memory w = with_prepared w (λ call. perform call memory w)
act f.StableSize args memory w = Gives (Some (page_count w.stable)) memory w
act f.StableGrow args memory w = grow_stable (at64 args 0) memory w
act f.StableRead args memory w = copies (at64 args 0) (at64 args 1) (at64 args 2) w.stable.bytes memory w
act f.StableWrite args memory w = with_range (at64 args 1) (at64 args 2) memory w (λ these. write_stable (at64 args 0) these memory w)
act f.DebugPrint args memory w = with_range (at32 args 0) (at32 args 1) memory w (λ text. Gives None memory (record w { prints = w.prints ++ text ∷ [] }))
act f.Trap args memory w = with_range (at32 args 0) (at32 args 1) memory w (λ text. trapped_with text w)

-- A function is called where it is allowed, or the execution traps.
abbrev pub call : Ic0 → List ℕ → List ℕ → World → Did
call function args memory w = cond (is_allowed w.kind function) (act function args memory w) (misuse w)

-- What a call gives or how it ends, with the memory and the world after it. Nothing is said where memory was wanting.
abbrev pub Does : Did → Result (Option ℕ) CallEnd → List ℕ → World → Type 0
Does did (Ok value) memory w = did ≡ Gives value memory w
Does did (Err end.Trap) memory w = did ≡ Traps w
Does did (Err end.Memory) memory w = ⊤

-- Whether the range of the data was copied to the place, which is so where both lie inside.
abbrev pub Copied : Bool → ℕ → ℕ → ℕ → List ℕ → List ℕ → List ℕ → Type 0
Copied true destination offset size bytes old new =
    ((is_inside destination size old && is_inside offset size bytes) ≡ true) × (new ≡ put destination (range offset size bytes) old)
Copied false destination offset size bytes old new = ((is_inside destination size old && is_inside offset size bytes) ≡ false) × (new ≡ old)
