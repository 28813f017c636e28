-- Answers to outgoing calls.
use Rattle.canister_host.specs.HostRun as run
use Rattle.canister_execution.specs.declared.memories.Message.{Message}
use Rattle.canister_messages.specs.declared.answers.Received.{Received}
use Rattle.canister_messages.specs.declared.answers.Received.TheVariants as received

abbrev pub received_of : Received → run.Received
received_of (received.Reply bytes) = run.Reply bytes
received_of (received.Reject code text) = run.Reject code text

-- The message with the answer that is received.
abbrev pub received_message : run.Received → Message → Message
received_message (run.Reply bytes) m = record m { argument = bytes }
received_message (run.Reject code text) m = record m { reject_code = code; reject_text = text }
