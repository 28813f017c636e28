-- Calls that are numbered one after another.
use Rattle.std.proofs.Common.{◌≡◌, ◌≤◌, ◌+◌, ℕ, List, [], ◌∷◌, ◌++◌, length, map, refl, sym, ap, ◌∙◌, arith, append_assoc, length-append}
use Rattle.std.proofs.lemmas.List.{map-append}
use Rattle.ic0_world.specs.declared.world.OutgoingCall.{OutgoingCall}
use Rattle.canister_host.specs.declared.calls.OpenCall.{OpenCall}
use Rattle.canister_host.specs.HostRun.{numbered, call_item}
use Rattle.play_script.specs.declared.item.Item.{Item}
use Rattle.play_script.specs.declared.item.Item.TheVariants as item

abbrev open_call : ℕ → ℕ → OutgoingCall → OpenCall
open_call owner number c = record { number = number; owner = owner; call = c }

pub numbered-one : (owner number : ℕ) (calls : List OutgoingCall) (c : OutgoingCall)
    → numbered owner number (calls ++ c ∷ []) ≡ numbered owner number calls ++ record { number = number + length calls; owner = owner; call = c } ∷ []
numbered-one owner number [] c = ap (λ n. open_call owner n c ∷ []) (omega arith)
numbered-one owner number (d ∷ calls) c =
    let e : number + 1 + length calls ≡ number + length (d ∷ calls) = omega arith in
    ap (λ l. open_call owner number d ∷ l) (numbered-one owner (number + 1) calls c ∙ ap (λ n. numbered owner (number + 1) calls ++ open_call owner n c ∷ []) e)

pub length-numbered : (owner number : ℕ) (calls : List OutgoingCall) → length (numbered owner number calls) ≡ length calls
length-numbered owner number [] = refl
length-numbered owner number (d ∷ calls) = let e : length (numbered owner (number + 1) calls) ≡ length calls = length-numbered owner (number + 1) calls in omega arith

pub next_number : (first number : ℕ) (calls : List OutgoingCall) (c : OutgoingCall) → number ≡ first + length calls → number + 1 ≡ first + length (calls ++ c ∷ [])
next_number first number calls c e = rw length-append (omega arith)

pub next_opened : (owner first number : ℕ) (calls : List OutgoingCall) (c : OutgoingCall) (opened more : List OpenCall) → number ≡ first + length calls
    → opened ≡ numbered owner first calls → more ≡ opened ++ record { number = number; owner = owner; call = c } ∷ [] → more ≡ numbered owner first (calls ++ c ∷ [])
next_opened owner first number calls c opened more at so pushed =
    pushed ∙ ap (λ l. l ++ open_call owner number c ∷ []) so ∙ ap (λ n. numbered owner first calls ++ open_call owner n c ∷ []) at ∙ sym (numbered-one owner first calls c)

pub next_items : (owner first number : ℕ) (calls : List OutgoingCall) (c : OutgoingCall) (before items more : List Item) → number ≡ first + length calls
    → items ≡ before ++ map call_item (numbered owner first calls) → more ≡ items ++ item.Call number c.callee c.method c.argument ∷ []
    → more ≡ before ++ map call_item (numbered owner first (calls ++ c ∷ []))
next_items owner first number calls c before items more at so pushed =
    pushed ∙ ap (λ l. l ++ call_item (open_call owner number c) ∷ []) so ∙ append_assoc before (map call_item (numbered owner first calls)) (call_item (open_call owner number c) ∷ [])
    ∙ ap (λ l. before ++ l) (sym (map-append call_item (numbered owner first calls) (open_call owner number c ∷ [])) ∙ ap (λ n. map call_item (numbered owner first calls ++ open_call owner n c ∷ [])) at ∙ ap (map call_item) (sym (numbered-one owner first calls c)))

-- No more than 500 calls are open after an execution.
pub few_open : (open_calls : List OpenCall) (performed : List OutgoingCall) (owner made : ℕ) (after : List OpenCall) → after ≡ open_calls ++ numbered owner made performed → length performed + length open_calls ≤ 500 → length after ≤ 500
few_open open_calls performed owner made after e few =
    let many : length (numbered owner made performed) ≡ length performed = length-numbered owner made performed in
    rw (e, length-append) (omega arith)
