-- What an actor and the host of its module agree on between events: who was answered, which calls are open, and the next
-- numbers of incoming and outgoing calls.
use Rattle.std.specs.Prelude.{◌≡◌, ⊤, ℕ, suc, List, [], ◌∷◌, map, Some, cond}
use Rattle.mo_types.specs.Calls.{Call, is_open_state, next_number}
use Rattle.canister_host.specs.State.{Canister, HostState}
use Rattle.canister_host.specs.declared.calls.IncomingCall.{IncomingCall}
use Rattle.canister_host.specs.declared.calls.OpenCall.{OpenCall}
use Rattle.mo_actor.specs.Languages.{Language}
use Rattle.mo_actor.specs.States.{Activation, Actor, is_answered}

-- An open call by its number, and the incoming call that it was made for.
pub record CallOwner : Type 0 where
  pub number : ℕ
  pub owner : ℕ

abbrev pub owner_of : OpenCall → CallOwner
owner_of c = record { number = c.number; owner = c.owner }

-- The open ones of calls that are numbered from the first on.
abbrev pub open_owners : {T V : Type 0} → (number : ℕ) → List (Call T V) → List CallOwner
open_owners number [] = []
open_owners number (c ∷ calls) = cond (is_open_state c.state) (record { number = number; owner = c.owner } ∷ open_owners (suc number) calls) (open_owners (suc number) calls)

module _ {L : Language} where
  -- The same incoming calls are answered.
  abbrev pub SameIncoming : List (Activation L) → List IncomingCall → Type 0
  SameIncoming [] [] = ⊤
  SameIncoming (activation ∷ activations) (c ∷ calls) = (is_answered activation ≡ c.answered) × SameIncoming activations calls
  SameIncoming _ _ = ⊥

  pub record Agrees (a : Actor L) (s : HostState) : Type 0 where
    pub canister : Canister
    pub there : s.canister ≡ Some canister
    pub incoming : SameIncoming a.activations s.incoming
    pub calls : map owner_of s.waiting ≡ open_owners a.table.first a.table.calls
    pub made : next_number a.table ≡ s.made
