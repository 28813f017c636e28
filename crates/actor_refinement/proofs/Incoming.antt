-- The activations of an actor, and the incoming calls of its host; the calls that an execution makes.
use Rattle.std.proofs.Common.{◌≡◌, ℕ, suc, zero, ◌+◌, Bool, true, false, cond, List, [], ◌∷◌, ◌++◌, length, map, Some, refl, ap, ap₂, ◌∙◌, slice_get, slice_set, arith}
use Rattle.mo_types.specs.Calls.{Call, is_open_state}
use Rattle.play_script.specs.declared.item.Item.TheVariants as item
use Rattle.ic0_world.specs.declared.world.OutgoingCall.{OutgoingCall as PerformedCall}
use Rattle.canister_host.specs.declared.calls.IncomingCall.{IncomingCall}
use Rattle.canister_host.specs.HostRun.{numbered, call_item}
use Rattle.canister_host.specs.HostRun.{is_answered as host_answered}
use Rattle.mo_actor.specs.Languages.{Language}
use Rattle.mo_actor.specs.Programs.{OutgoingCall}
use Rattle.mo_actor.specs.States.{Activation, activation_at, is_answered}
use Rattle.mo_actor.specs.Outcomes.{call_items}
use Rattle.mo_actor.specs.Completions.{open_call}
use Rattle.actor_refinement.specs.Agreement.{owner_of, open_owners, SameIncoming}
use Rattle.actor_refinement.specs.Simulates.{SameCalls}
use Rattle.actor_refinement.proofs.OpenCalls.{entry}

pub get_last : {A : Type 0} (xs : List A) (x : A) → slice_get (xs ++ x ∷ []) (length xs) ≡ Some x
get_last [] x = refl
get_last (y ∷ xs) x = get_last xs x

module _ {L : Language} where
  -- ---- calls that are made

  pub calls_open : (n k owner : ℕ) (calls : List (Call L.results L.value)) (made : List (OutgoingCall L)) (performed : List PerformedCall) → SameCalls made performed → k ≡ n + length calls
      → open_owners n (calls ++ map (open_call owner) made) ≡ open_owners n calls ++ map owner_of (numbered owner k performed)
  calls_open n k owner [] [] [] same e = refl
  calls_open n k owner [] (c ∷ made) (d ∷ performed) same e =
      ap₂ (λ i os. entry i owner ∷ os) (omega (arith, e)) (calls_open (suc n) (k + 1) owner [] made performed same.3 (omega (arith, e)))
  calls_open n k owner (c ∷ calls) made performed same e =
      by (is_open_state c.state) (calls_open (suc n) k owner calls made performed same (omega (arith, e)))
    where
      by : (b : Bool) → open_owners (suc n) (calls ++ map (open_call owner) made) ≡ open_owners (suc n) calls ++ map owner_of (numbered owner k performed)
          → cond b (entry n c.owner ∷ open_owners (suc n) (calls ++ map (open_call owner) made)) (open_owners (suc n) (calls ++ map (open_call owner) made))
          ≡ cond b (entry n c.owner ∷ open_owners (suc n) calls) (open_owners (suc n) calls) ++ map owner_of (numbered owner k performed)
      by true next = ap (λ os. entry n c.owner ∷ os) next
      by false next = next
  calls_open n k owner [] [] (d ∷ performed) same e = absurd same
  calls_open n k owner [] (c ∷ made) [] same e = absurd same

  pub calls_counted : (made : List (OutgoingCall L)) (performed : List PerformedCall) → SameCalls made performed → length made ≡ length performed
  calls_counted [] [] same = refl
  calls_counted (c ∷ made) (d ∷ performed) same = ap suc (calls_counted made performed same.3)
  calls_counted [] (d ∷ performed) same = absurd same
  calls_counted (c ∷ made) [] same = absurd same

  pub calls_shown : (n owner : ℕ) (made : List (OutgoingCall L)) (performed : List PerformedCall) → SameCalls made performed → call_items n made ≡ map call_item (numbered owner n performed)
  calls_shown n owner [] [] same = refl
  calls_shown n owner (c ∷ made) (d ∷ performed) same =
      let head : item.Call n c.callee c.method c.argument ≡ item.Call n d.callee d.method d.argument =
      ap₂ (λ x y. item.Call n x y c.argument) same.0 same.1 ∙ ap (λ z. item.Call n d.callee d.method z) same.2 in
      ap₂ (λ i is. i ∷ is) head (calls_shown (n + 1) owner made performed same.3)
  calls_shown n owner [] (d ∷ performed) same = absurd same
  calls_shown n owner (c ∷ made) [] same = absurd same

  -- ---- incoming calls

  pub incoming_push : (activations : List (Activation L)) (calls : List IncomingCall) (x : Activation L) (call : IncomingCall) → SameIncoming activations calls → is_answered x ≡ call.answered → SameIncoming (activations ++ x ∷ []) (calls ++ call ∷ [])
  incoming_push [] [] x call same e = (e, tt)
  incoming_push (y ∷ activations) (c ∷ calls) x call same e = (same.0, incoming_push activations calls x call same.1 e)
  incoming_push [] (c ∷ calls) x call same e = absurd same
  incoming_push (y ∷ activations) [] x call same e = absurd same

  pub incoming_counted : (activations : List (Activation L)) (calls : List IncomingCall) → SameIncoming activations calls → length activations ≡ length calls
  incoming_counted [] [] same = refl
  incoming_counted (y ∷ activations) (c ∷ calls) same = ap suc (incoming_counted activations calls same.1)
  incoming_counted [] (c ∷ calls) same = absurd same
  incoming_counted (y ∷ activations) [] same = absurd same

  pub incoming_at : (activations : List (Activation L)) (calls : List IncomingCall) (k : ℕ) → SameIncoming activations calls → is_answered (activation_at activations k) ≡ host_answered (slice_get calls k)
  incoming_at [] [] k same = refl
  incoming_at (y ∷ activations) (c ∷ calls) zero same = same.0
  incoming_at (y ∷ activations) (c ∷ calls) (suc k) same = incoming_at activations calls k same.1
  incoming_at [] (c ∷ calls) k same = absurd same
  incoming_at (y ∷ activations) [] k same = absurd same

  pub incoming_set : (activations : List (Activation L)) (calls : List IncomingCall) (k : ℕ) (x : Activation L) (call : IncomingCall) → SameIncoming activations calls → is_answered x ≡ call.answered
      → SameIncoming (slice_set activations k x) (slice_set calls k call)
  incoming_set [] [] k x call same e = tt
  incoming_set (y ∷ activations) (c ∷ calls) zero x call same e = (e, same.1)
  incoming_set (y ∷ activations) (c ∷ calls) (suc k) x call same e = (same.0, incoming_set activations calls k x call same.1 e)
  incoming_set [] (c ∷ calls) k x call same e = absurd same
  incoming_set (y ∷ activations) [] k x call same e = absurd same

  -- an activation that changes without being answered
  pub incoming_kept : (activations : List (Activation L)) (calls : List IncomingCall) (k : ℕ) (x : Activation L) → SameIncoming activations calls → is_answered x ≡ is_answered (activation_at activations k)
      → SameIncoming (slice_set activations k x) calls
  incoming_kept [] [] k x same e = tt
  incoming_kept (y ∷ activations) (c ∷ calls) zero x same e = (e ∙ same.0, same.1)
  incoming_kept (y ∷ activations) (c ∷ calls) (suc k) x same e = (same.0, incoming_kept activations calls k x same.1 e)
  incoming_kept [] (c ∷ calls) k x same e = absurd same
  incoming_kept (y ∷ activations) [] k x same e = absurd same
