-- What the host has printed stays, whatever it is called for.
use Rattle.std.proofs.Common.{◌≡◌, ℕ, ◌+◌, ◌-◌, ◌^◌, List, [], ◌∷◌, ◌++◌, length, Bool, true, false, ◌&&◌, not, cond, nat_le, nat_lt, Option, Some, None, refl, sym, ap, ◌∙◌, append_assoc}
use Rattle.std.proofs.lemmas.List.{append-nil}
use Rattle.std.specs.Str.{is_utf8}
use Rattle.page_store.specs.Pages.{page_count, zero_pages}
use Rattle.ic0_world.specs.declared.function.Ic0.{Ic0}
use Rattle.ic0_world.specs.declared.function.Ic0.TheVariants as f
use Rattle.ic0_world.specs.declared.world.World.{World}
use Rattle.ic0_world.specs.declared.world.Callback.{Callback}
use Rattle.ic0_world.specs.declared.world.OutgoingCall.{OutgoingCall}
use Rattle.ic0_world.specs.declared.world.Answer.{Answer}
use Rattle.ic0_world.specs.declared.world.Answer.TheVariants.{Replied, Rejected}
use Rattle.ic0_world.specs.Allowed.{is_allowed}
use Rattle.ic0_world.specs.Act.{Did, Gives, Traps, misuse, trapped_with, is_inside, range, put, with_range, copies, is_answered, answers, append_reply, rejects, new_call, with_call, set_first, set_cleanup, append_argument, perform, grow_stable, write_stable, longest_message, longest_principal, most_open_calls, canister_reject, is_method, at32, at64, callback, act, call}
use Rattle.canister_host.specs.Entries.{imported_function, answer_of, call_of}
use Rattle.module_laws.specs.Prints.{IsLater, AnswerIsLater}
use Rattle.module_laws.specs.Laws.{PrintsOnlyGrow}

pub now : (w : World) → IsLater w w
now w = record { more = []; is = sym (append-nil w.prints) }

pub later : (a b c : World) → IsLater a b → IsLater b c → IsLater a c
later a b c p q = record { more = p.more ++ q.more; is = q.is ∙ ap (λ l. l ++ q.more) p.is ∙ append_assoc a.prints p.more q.more }

-- a world with the same prints
pub same_prints : (w after : World) → after.prints ≡ w.prints → IsLater w after
same_prints w after e = record { more = []; is = e ∙ sym (append-nil w.prints) }

abbrev DidKeep : World → Did → Type 0
DidKeep w (Gives value memory after) = IsLater w after
DidKeep w (Traps after) = IsLater w after

either : (w : World) (t : Bool) (a b : Did) → DidKeep w a → DidKeep w b → DidKeep w (cond t a b)
either w true a b p q = p
either w false a b p q = q

misused : (w : World) → DidKeep w (misuse w)
misused w = same_prints w _ refl

in_range : (source size : ℕ) (memory : List ℕ) (w : World) (next : List ℕ → Did) → ((bytes : List ℕ) → DidKeep w (next bytes)) → DidKeep w (with_range source size memory w next)
in_range source size memory w next h = either w (is_inside source size memory) (next (range source size memory)) (misuse w) (h _) (misused w)

of_prepared : (o : Option OutgoingCall) (w : World) (next : OutgoingCall → Did) → ((c : OutgoingCall) → DidKeep w (next c)) → DidKeep w (with_call o w next)
of_prepared None w next h = misused w
of_prepared (Some c) w next h = h c

of_copies : (d o s : ℕ) (bytes memory : List ℕ) (w : World) → DidKeep w (copies d o s bytes memory w)
of_copies d o s bytes memory w = either w (is_inside d s memory && is_inside o s bytes) (Gives None (put d (range o s bytes) memory) w) (misuse w) (now w) (misused w)

of_answers : (a : Answer) (memory : List ℕ) (w : World) → DidKeep w (answers a memory w)
of_answers a memory w = either w (is_answered w) (misuse w) (Gives None memory (record w { answer = Some a })) (misused w) (same_prints w _ refl)

of_reply : (more memory : List ℕ) (w : World) → DidKeep w (append_reply more memory w)
of_reply more memory w =
    either w (not (is_answered w) && nat_le (length w.reply_data + length more) longest_message) (Gives None memory (record w { reply_data = w.reply_data ++ more })) (misuse w) (same_prints w _ refl) (misused w)

of_rejects : (text memory : List ℕ) (w : World) → DidKeep w (rejects text memory w)
of_rejects text memory w = either w (is_utf8 text && nat_le (length text) longest_message) (answers (Rejected canister_reject text) memory w) (misuse w) (of_answers (Rejected canister_reject text) memory w) (misused w)

of_new : (callee method : List ℕ) (on_reply on_reject : Callback) (memory : List ℕ) (w : World) → DidKeep w (new_call callee method on_reply on_reject memory w)
of_new callee method on_reply on_reject memory w =
    either w (nat_le (length callee) longest_principal && is_method method)
    (Gives None memory (record w { prepared = Some (record { callee = callee; method = method; argument = []; on_reply = on_reply; on_reject = on_reject; on_cleanup = None }) })) (misuse w) (same_prints w _ refl) (misused w)

of_first : (o : Option Callback) (c : Callback) (call : OutgoingCall) (memory : List ℕ) (w : World) → DidKeep w (set_first o c call memory w)
of_first None c call memory w = same_prints w _ refl
of_first (Some b) c call memory w = misused w

of_argument : (more : List ℕ) (c : OutgoingCall) (memory : List ℕ) (w : World) → DidKeep w (append_argument more c memory w)
of_argument more c memory w =
    either w (nat_le (length c.argument + length more) longest_message) (Gives None memory (record w { prepared = Some (record c { argument = c.argument ++ more }) })) (misuse w) (same_prints w _ refl) (misused w)

of_perform : (c : OutgoingCall) (memory : List ℕ) (w : World) → DidKeep w (perform c memory w)
of_perform c memory w =
    either w (nat_lt (w.open_before + length w.performed) most_open_calls)
    (Gives (Some 0) memory (record w { prepared = None; performed = w.performed ++ c ∷ [] })) (Gives (Some 2) memory (record w { prepared = None })) (same_prints w _ refl) (same_prints w _ refl)

of_grow : (by : ℕ) (memory : List ℕ) (w : World) → DidKeep w (grow_stable by memory w)
of_grow by memory w =
    either w (nat_le (page_count w.stable + by) w.stable.limit)
    (Gives (Some (page_count w.stable)) memory (record w { stable = record w.stable { bytes = w.stable.bytes ++ zero_pages by } })) (Gives (Some (2 ^ 64 - 1)) memory (record w { stable_refused = true })) (same_prints w _ refl) (same_prints w _ refl)

of_write : (offset : ℕ) (these memory : List ℕ) (w : World) → DidKeep w (write_stable offset these memory w)
of_write offset these memory w =
    either w (is_inside offset (length these) w.stable.bytes) (Gives None memory (record w { stable = record w.stable { bytes = put offset these w.stable.bytes } })) (misuse w) (same_prints w _ refl) (misused w)

of_act : (function : Ic0) (args memory : List ℕ) (w : World) → DidKeep w (act function args memory w)
of_act f.MsgArgDataSize args memory w = now w
of_act f.MsgArgDataCopy args memory w = of_copies _ _ _ w.argument memory w
of_act f.MsgCallerSize args memory w = now w
of_act f.MsgCallerCopy args memory w = of_copies _ _ _ w.caller memory w
of_act f.MsgReplyDataAppend args memory w = in_range (at32 args 0) (at32 args 1) memory w (λ more. append_reply more memory w) (λ more. of_reply more memory w)
of_act f.MsgReject args memory w = in_range (at32 args 0) (at32 args 1) memory w (λ text. rejects text memory w) (λ text. of_rejects text memory w)
of_act f.MsgReply args memory w = of_answers (Replied w.reply_data) memory w
of_act f.MsgRejectCode args memory w = now w
of_act f.MsgRejectMsgSize args memory w = now w
of_act f.MsgRejectMsgCopy args memory w = of_copies _ _ _ w.reject_text memory w
of_act f.CanisterSelfSize args memory w = now w
of_act f.CanisterSelfCopy args memory w = of_copies _ _ _ w.own memory w
of_act f.CallNew args memory w =
    in_range (at32 args 0) (at32 args 1) memory w
    (λ callee. with_range (at32 args 2) (at32 args 3) memory w (λ method. new_call callee method (callback (at32 args 4) (at32 args 5)) (callback (at32 args 6) (at32 args 7)) memory w))
    (λ callee. in_range (at32 args 2) (at32 args 3) memory w (λ method. new_call callee method (callback (at32 args 4) (at32 args 5)) (callback (at32 args 6) (at32 args 7)) memory w)
    (λ method. of_new callee method (callback (at32 args 4) (at32 args 5)) (callback (at32 args 6) (at32 args 7)) memory w))
of_act f.CallOnCleanup args memory w =
    of_prepared w.prepared w (λ c. set_cleanup (callback (at32 args 0) (at32 args 1)) c memory w) (λ c. of_first c.on_cleanup (callback (at32 args 0) (at32 args 1)) c memory w)
of_act f.CallDataAppend args memory w =
    in_range (at32 args 0) (at32 args 1) memory w (λ more. with_call w.prepared w (λ c. append_argument more c memory w)) (λ more. of_prepared w.prepared w (λ c. append_argument more c memory w) (λ c. of_argument more c memory w))
of_act f.CallPerform args memory w = of_prepared w.prepared w (λ c. perform c memory w) (λ c. of_perform c memory w)
of_act f.StableSize args memory w = now w
of_act f.StableGrow args memory w = of_grow (at64 args 0) memory w
of_act f.StableRead args memory w = of_copies _ _ _ w.stable.bytes memory w
of_act f.StableWrite args memory w = in_range (at64 args 1) (at64 args 2) memory w (λ these. write_stable (at64 args 0) these memory w) (λ these. of_write (at64 args 0) these memory w)
of_act f.DebugPrint args memory w =
    in_range (at32 args 0) (at32 args 1) memory w (λ text. Gives None memory (record w { prints = w.prints ++ text ∷ [] })) (λ text. record { more = text ∷ []; is = refl })
of_act f.Trap args memory w = in_range (at32 args 0) (at32 args 1) memory w (λ text. trapped_with text w) (λ text. same_prints w _ refl)

of_call : (o : Option Ic0) (args memory : List ℕ) (w : World) → DidKeep w (call_of o args memory w)
of_call None args memory w = misused w
of_call (Some function) args memory w = either w (is_allowed w.kind function) (act function args memory w) (misuse w) (of_act function args memory w) (misused w)

as_answer : (w : World) (d : Did) → DidKeep w d → AnswerIsLater w (answer_of d)
as_answer w (Gives value memory after) p = p
as_answer w (Traps after) p = p

-- Whatever is called.
pub calls_are_later : (o : Option Ic0) (args memory : List ℕ) (w : World) → AnswerIsLater w (answer_of (call_of o args memory w))
calls_are_later o args memory w = as_answer w _ (of_call o args memory w)

pub prints_grow : PrintsOnlyGrow
prints_grow m f args memory w = calls_are_later (imported_function m f) args memory w
