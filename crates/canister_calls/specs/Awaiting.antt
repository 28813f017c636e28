-- What is done with the answer to an open call.
use Rattle.canister_host.specs.declared.calls.OpenCall.{OpenCall}
use Rattle.canister_calls.specs.declared.calls.Awaiting.{Awaiting}

abbrev pub awaiting_of : OpenCall → Awaiting
awaiting_of c = record { owner = c.owner; on_reply = c.call.on_reply; on_reject = c.call.on_reject; on_cleanup = c.call.on_cleanup }
