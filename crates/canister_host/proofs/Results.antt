-- What a function of `ic0` gives fits its type.
use Rattle.std.proofs.Common.{◌≡◌, ◌%◌, ◌^◌, ◌<◌, ℕ, zero, suc, Bool, true, false, cond, List, [], ◌∷◌, Option, Some, None, refl, sym, subst, ap, ◌∙◌, arith}
use Rattle.std.specs.Prelude.{⊤, map, slice_get}
use Rattle.std.proofs.Math.ListN.{get_or}
use Rattle.std.proofs.Math.Nat.{mod-lt}
use Rattle.wasm_tree.specs.declared.types.ValueType.{ValueType}
use Rattle.wasm_tree.specs.declared.types.ValueType.TheVariants.{I32, I64}
use Rattle.wasm_tree.specs.declared.types.FunctionType.{FunctionType}
use Rattle.wasm_machine.specs.Asked.{FitsKinds, FitsResult}
use Rattle.ic0_world.specs.declared.function.Ic0.{Ic0}
use Rattle.ic0_world.specs.declared.function.Ic0.TheVariants as f
use Rattle.ic0_world.specs.declared.world.Callback.{Callback}
use Rattle.ic0_world.specs.declared.world.OutgoingCall.{OutgoingCall}
use Rattle.ic0_world.specs.declared.world.Answer.{Answer}
use Rattle.ic0_world.specs.declared.world.Answer.TheVariants.{Replied, Rejected}
use Rattle.ic0_world.specs.declared.world.World.{World}
use Rattle.ic0_world.specs.Allowed.{is_allowed}
use Rattle.ic0_world.specs.Act.{Did, Gives, Traps, misuse, with_range, with_call, set_first, set_cleanup, append_argument, perform, callback, at32, range, new_call, answers, rejects, is_answered, canister_reject, act, call}
use Rattle.canister_host.specs.Types.{type_of_function}

unfoldable pub Fits : List ValueType → Did → Type 0
Fits kinds (Gives value memory w) = FitsKinds kinds value
Fits kinds (Traps w) = ⊤

gave : (kinds : List ValueType) (value : Option ℕ) (memory : List ℕ) (w : World) → FitsKinds kinds value → Fits kinds (Gives value memory w)
unfolding Fits
gave kinds value memory w fits = fits

broke : (kinds : List ValueType) (w : World) → Fits kinds (Traps w)
unfolding Fits
broke kinds w = tt

no_value : (memory : List ℕ) (w : World) → Fits [] (Gives None memory w)
unfolding Fits
no_value memory w = tt

kinds_of : (kinds : List ValueType) (value : Option ℕ) (memory : List ℕ) (w : World) → Fits kinds (Gives value memory w) → FitsKinds kinds value
unfolding Fits
kinds_of kinds value memory w fits = fits

chosen : (kinds : List ValueType) (b : Bool) (d e : Did) → Fits kinds d → Fits kinds e → Fits kinds (cond b d e)
chosen kinds true d e first second = first
chosen kinds false d e first second = second

prepared : (kinds : List ValueType) (o : Option OutgoingCall) (w : World) (next : OutgoingCall → Did) → ((c : OutgoingCall) → Fits kinds (next c)) → Fits kinds (with_call o w next)
prepared kinds None w next n = broke kinds _
prepared kinds (Some c) w next n = n c

first_only : (o : Option Callback) (callback : Callback) (c : OutgoingCall) (memory : List ℕ) (w : World) → Fits [] (set_first o callback c memory w)
first_only None callback c memory w = no_value _ _
first_only (Some before) callback c memory w = broke [] _

small : (n : ℕ) → FitsKinds (I32 ∷ []) (Some (n % 2 ^ 32))
small n = (refl, mod-lt n (omega arith))

fits_answers : (a : Answer) (memory : List ℕ) (w : World) → Fits [] (answers a memory w)
fits_answers a memory w = chosen [] (is_answered w) (misuse w) (Gives None memory (record w { answer = Some a })) (broke [] _) (no_value memory _)

fits_rejects : (text memory : List ℕ) (w : World) → Fits [] (rejects text memory w)
fits_rejects text memory w = chosen [] _ (answers (Rejected canister_reject text) memory w) (misuse w) (fits_answers (Rejected canister_reject text) memory w) (broke [] _)

fits_new : (callee method : List ℕ) (on_reply on_reject : Callback) (memory : List ℕ) (w : World) → Fits [] (new_call callee method on_reply on_reject memory w)
fits_new callee method on_reply on_reject memory w = chosen [] _ _ _ (no_value _ _) (broke [] _)

ranged : (source size : ℕ) (memory : List ℕ) (w : World) (next : List ℕ → Did) → ((these : List ℕ) → Fits [] (next these)) → Fits [] (with_range source size memory w next)
ranged source size memory w next n = chosen [] _ _ _ (n (range source size memory)) (broke [] _)

-- In the world and the memory before, with these arguments.
fits_act : (function : Ic0) (args memory : List ℕ) (w : World) → Fits (type_of_function function).results (act function args memory w)
fits_act f.MsgArgDataSize args memory w = gave (I32 ∷ []) _ memory w (small _)
fits_act f.MsgArgDataCopy args memory w = chosen [] _ _ _ (no_value _ _) (broke [] _)
fits_act f.MsgCallerSize args memory w = gave (I32 ∷ []) _ memory w (small _)
fits_act f.MsgCallerCopy args memory w = chosen [] _ _ _ (no_value _ _) (broke [] _)
fits_act f.MsgReplyDataAppend args memory w = chosen [] _ _ _ (chosen [] _ _ _ (no_value _ _) (broke [] _)) (broke [] _)
fits_act f.MsgReject args memory w = chosen [] _ _ _ (fits_rejects (range (at32 args 0) (at32 args 1) memory) memory w) (broke [] _)
fits_act f.MsgReply args memory w = fits_answers (Replied w.reply_data) memory w
fits_act f.MsgRejectCode args memory w = gave (I32 ∷ []) _ memory w (small _)
fits_act f.MsgRejectMsgSize args memory w = gave (I32 ∷ []) _ memory w (small _)
fits_act f.MsgRejectMsgCopy args memory w = chosen [] _ _ _ (no_value _ _) (broke [] _)
fits_act f.CanisterSelfSize args memory w = gave (I32 ∷ []) _ memory w (small _)
fits_act f.CanisterSelfCopy args memory w = chosen [] _ _ _ (no_value _ _) (broke [] _)
fits_act f.CallNew args memory w =
    ranged (at32 args 0) (at32 args 1) memory w
    (λ callee. with_range (at32 args 2) (at32 args 3) memory w (λ method. new_call callee method (callback (at32 args 4) (at32 args 5)) (callback (at32 args 6) (at32 args 7)) memory w))
    (λ callee. ranged (at32 args 2) (at32 args 3) memory w (λ method. new_call callee method (callback (at32 args 4) (at32 args 5)) (callback (at32 args 6) (at32 args 7)) memory w)
    (λ method. fits_new callee method (callback (at32 args 4) (at32 args 5)) (callback (at32 args 6) (at32 args 7)) memory w))
fits_act f.CallOnCleanup args memory w = prepared [] w.prepared w (λ c. set_cleanup (callback (at32 args 0) (at32 args 1)) c memory w) (λ c. first_only c.on_cleanup (callback (at32 args 0) (at32 args 1)) c memory w)
fits_act f.CallDataAppend args memory w = chosen [] _ _ _ (prepared [] w.prepared w (λ c. append_argument (range (at32 args 0) (at32 args 1) memory) c memory w) (λ c. chosen [] _ _ _ (no_value _ _) (broke [] _))) (broke [] _)
fits_act f.CallPerform args memory w = prepared (I32 ∷ []) w.prepared w (λ c. perform c memory w) (λ c. chosen (I32 ∷ []) _ _ _ (gave (I32 ∷ []) _ _ _ (small 0)) (gave (I32 ∷ []) _ _ _ (small 2)))
fits_act f.StableSize args memory w = gave (I64 ∷ []) _ memory w refl
fits_act f.StableGrow args memory w = chosen (I64 ∷ []) _ _ _ (gave (I64 ∷ []) _ _ _ refl) (gave (I64 ∷ []) _ _ _ refl)
fits_act f.StableRead args memory w = chosen [] _ _ _ (no_value _ _) (broke [] _)
fits_act f.StableWrite args memory w = chosen [] _ _ _ (chosen [] _ _ _ (no_value _ _) (broke [] _)) (broke [] _)
fits_act f.DebugPrint args memory w = chosen [] _ _ _ (no_value _ _) (broke [] _)
fits_act f.Trap args memory w = chosen [] _ _ _ (broke [] _) (broke [] _)

fits_call : (function : Ic0) (args memory : List ℕ) (w : World) → Fits (type_of_function function).results (call function args memory w)
fits_call function args memory w = chosen (type_of_function function).results (is_allowed w.kind function) _ _ (fits_act function args memory w) (broke _ _)

some_same : {A : Type 0} (a b : A) → Some a ≡ Some b → a ≡ b
some_same {A = A} a b e = ap (or_other a) e
  where
    or_other : A → Option A → A
    or_other x None = x
    or_other x (Some y) = y

-- The type of the import at a place is that of its function.
type_there : (functions : List Ic0) (place : ℕ) (other : Ic0) (type : FunctionType) → slice_get (map type_of_function functions) place ≡ Some type
    → type_of_function (get_or functions place other) ≡ type
type_there [] place other type typed = absurd (cc)
type_there (x ∷ functions) zero other type typed = some_same (type_of_function x) type typed
type_there (x ∷ functions) (suc place) other type typed = type_there functions place other type typed

pub fits_result : (functions : List Ic0) (place : ℕ) (other : Ic0) (args memory : List ℕ) (w : World) (value : Option ℕ) (new : List ℕ) (after : World)
    → call (get_or functions place other) args memory w ≡ Gives value new after → FitsResult (map type_of_function functions) place value
fits_result functions place other args memory w value new after did type typed =
    subst (λ t. FitsKinds t.results value) (type_there functions place other type typed)
    (kinds_of (type_of_function (get_or functions place other)).results value new after (subst (Fits (type_of_function (get_or functions place other)).results) did (fits_call (get_or functions place other) args memory w)))
