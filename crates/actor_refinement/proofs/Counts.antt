-- The limit on open calls is seen by both sides: the calls that wait at the host, those of this execution included, are as
-- many as those that are open in the table.
use Rattle.std.proofs.Common.{◌≡◌, ℕ, suc, ◌+◌, Bool, true, false, List, [], ◌∷◌, ◌++◌, length, map, refl, sym, ap, ◌∙◌, arith, cond, if◌then◌else◌}
use Rattle.std.proofs.lemmas.List.{length-map}
use Rattle.mo_types.specs.Calls.{Call, is_open_state, count_open}
use Rattle.ic0_world.specs.declared.world.OutgoingCall.{OutgoingCall as PerformedCall}
use Rattle.canister_host.specs.declared.calls.OpenCall.{OpenCall}
use Rattle.mo_actor.specs.Languages.{Language}
use Rattle.mo_actor.specs.Programs.{OutgoingCall}
use Rattle.mo_actor.specs.Completions.{open_call}
use Rattle.actor_refinement.specs.Agreement.{owner_of, open_owners}
use Rattle.actor_refinement.specs.Simulates.{SameCalls}

pub count_waiting : {T V : Type 0} (n : ℕ) (calls : List (Call T V)) (waiting : List OpenCall) → map owner_of waiting ≡ open_owners n calls → count_open calls ≡ length waiting
count_waiting n calls waiting e = counted n calls ∙ sym (ap length e) ∙ length-map waiting owner_of
  where
    counted : {T V : Type 0} (n : ℕ) (calls : List (Call T V)) → count_open calls ≡ length (open_owners n calls)
    counted n [] = refl
    counted n (c ∷ calls) = by (is_open_state c.state) (counted (suc n) calls)
      where
        by : (b : Bool) → count_open calls ≡ length (open_owners (suc n) calls)
            → (if b then suc (count_open calls) else count_open calls) ≡ length (cond b (record { number = n; owner = c.owner } ∷ open_owners (suc n) calls) (open_owners (suc n) calls))
        by true e = ap suc e
        by false e = e

pub count_made : {L : Language} (owner : ℕ) (calls : List (Call L.results L.value)) (made : List (OutgoingCall L)) (performed : List PerformedCall) → SameCalls made performed
    → count_open (calls ++ map (open_call owner) made) ≡ count_open calls + length performed
count_made owner [] [] [] same = refl
count_made owner [] (c ∷ made) (d ∷ performed) same = let rest = count_made owner [] made performed same.3 in omega (arith, rest)
count_made owner (c ∷ calls) made performed same = by (is_open_state c.state) (count_made owner calls made performed same)
  where
    by : (b : Bool) → count_open (calls ++ map (open_call owner) made) ≡ count_open calls + length performed
        → (if b then suc (count_open (calls ++ map (open_call owner) made)) else count_open (calls ++ map (open_call owner) made)) ≡ (if b then suc (count_open calls) else count_open calls) + length performed
    by true e = omega (arith, e)
    by false e = e
count_made owner [] [] (d ∷ performed) same = absurd same
count_made owner [] (c ∷ made) [] same = absurd same
