-- The calls of the host's state, while an event is worked on.
use Rattle.std.specs.Prelude.{◌≡◌, ◌+◌, ℕ, List, ◌++◌, length, map, Option, Some, None, not, nat_eq}
use Rattle.std.specs.List.{filter}
use Rattle.play_script.specs.declared.item.Item.{Item}
use Rattle.ic0_world.specs.declared.world.Answer.{Answer}
use Rattle.ic0_world.specs.declared.world.OutgoingCall.{OutgoingCall}
use Rattle.canister_host.specs.declared.calls.OpenCall.{OpenCall}
use Rattle.canister_host.specs.State as host
use Rattle.canister_host.specs.State.{HostState}
use Rattle.canister_host.specs.HostRun.{Outcome, numbered, call_item, answer_items, if_answer, closing}
use Rattle.canister_calls.specs.declared.calls.Calls.{Calls}

abbrev pub state_with : Option host.Canister → Calls → HostState
state_with c calls = record { canister = c; incoming = calls.incoming.items; made = calls.made; waiting = calls.waiting.items }

-- The open calls but the one that the event answers, if it answers one.
abbrev pub without : Option ℕ → List OpenCall → List OpenCall
without None calls = calls
without (Some number) calls = filter (λ other. not (nat_eq other.number number)) calls

abbrev pub during : Option ℕ → HostState → HostState
during answering s = record s { waiting = without answering s.waiting }

-- The calls of a finished execution are open, and its answer is given.
abbrev pub with_made : ℕ → List OutgoingCall → Option Answer → HostState → HostState
with_made owner performed answer s =
    if_answer owner answer (record s { made = s.made + length performed; waiting = s.waiting ++ numbered owner s.made performed })

-- What a finished execution leaves, behind these items.
abbrev pub finished : ℕ → List Item → List OutgoingCall → Option Answer → HostState → Outcome
finished owner items performed answer s =
    closing owner (items ++ map call_item (numbered owner s.made performed) ++ answer_items owner answer) (with_made owner performed answer s)

pub record SameCalls (old new : Calls) : Type 0 where
  pub incoming : new.incoming.items ≡ old.incoming.items
  pub made : new.made ≡ old.made
  pub waiting : new.waiting.items ≡ old.waiting.items
